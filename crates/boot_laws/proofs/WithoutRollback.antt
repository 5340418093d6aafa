-- With rollback off new and pending count as undefined: the choice and the reply are the same.
-- Assumes nothing.
use Rattle.std.proofs.Common.{◌≡◌, ℕ, zero, suc, ◌+◌, Bool, false, not, ◌&&◌, if◌then◌else◌, List, [], ◌∷◌, map, Option, Some, None, option_map, option_and_then, Ok, Err, length, take, drop, refl, sym, ap, ap₂, ◌∙◌}
use Rattle.std.specs.Prelude.{◌==◌, is_err}
use Rattle.std.specs.Option.{option_or}
use Rattle.otadata.specs.declared.records.Slot.{Slot}
use Rattle.otadata.specs.declared.states.State.{State}
use Rattle.otadata.specs.declared.states.State.TheVariants.{New, Pending, Valid, Invalid, Aborted, Undefined}
use Rattle.otadata.specs.State.{is_usable}
use Rattle.otadata.specs.Record.{Reading, slot_of}
use Rattle.sectors.specs.declared.reading.SectorNumber.{SectorNumber}
use Rattle.sectors.specs.declared.reading.SectorNumber.TheVariants.{Zero, One}
use Rattle.sectors.specs.Sector.{read_sector, readings, usable_sequence, highest, active}
use Rattle.sectors.specs.Otadata.{readings_of}
use Rattle.partitions.specs.declared.list.App.TheVariants.{OtaSlot}
use Rattle.node.specs.declared.Settings.{Settings}
use Rattle.node.specs.declared.Node.{Node}
use Rattle.node.specs.Node.{passing}
use Rattle.boot_choice.specs.declared.Choice.{Choice}
use Rattle.boot_choice.specs.declared.Choice.TheVariants.{Recorded, Factory, Found}
use Rattle.boot_choice.specs.Choice.{slots_of, through_slot, through_reading, in_order, through_active, factory, is_barred_by, is_barred, candidate, first_from, last_search, choice}
use Rattle.boot.specs.Boot.{first_of, second_of, hold_no_good, register_after, reply_by}
use Rattle.boot_laws.specs.Laws.{sector, counted_state, counted, WithoutRollback}
use Rattle.boot_laws.proofs.Boots.{second_is, accepted_is, reply_accepted}
use Rattle.boot_laws.proofs.Changes.{no_settling}

-- ---- one record

usable_state : (state : State) → is_usable (counted_state state) ≡ is_usable state
usable_state New = refl
usable_state Pending = refl
usable_state Valid = refl
usable_state Invalid = refl
usable_state Aborted = refl
usable_state Undefined = refl

same_sequence : (r : Reading) → usable_sequence (counted r) ≡ usable_sequence r
same_sequence (Ok r) = ap (λ (usable : Bool). if usable then Some r.sequence else None) (usable_state r.state)
same_sequence (Err fault) = refl

same_bars : (n : ℕ) (slot : Slot) (r : Reading) → is_barred_by n slot (counted r) ≡ is_barred_by n slot r
same_bars n slot (Ok r) = ap (λ (usable : Bool). not usable && ((slot_of n r.sequence).0 == slot.0)) (usable_state r.state)
same_bars n slot (Err fault) = refl

same_err : (r : Reading) → is_err (counted r) ≡ is_err r
same_err (Ok r) = refl
same_err (Err fault) = refl

-- ---- the two readings

then_same : {A B : Type 0} (f g : A → Option B) → ((x : A) → f x ≡ g x) → (o : Option A) → option_and_then f o ≡ option_and_then g o
then_same f g same None = refl
then_same f g same (Some x) = same x

module _ (node : Node) (first second : Reading) where
  abbrev both : List Reading
  both = first ∷ second ∷ []

  same_through : (k : SectorNumber) (r : Reading) → through_reading node (k, counted r) ≡ through_reading node (k, r)
  unfolding through_reading
  same_through k r = ap (option_and_then (λ q. through_slot node k (slot_of (slots_of node) q))) (same_sequence r)

  same_active : active (map counted both) ≡ active both
  same_active = ap₂ highest (same_sequence first) (same_sequence second)

  same_order : (k : SectorNumber) → in_order node (counted first) (counted second) k ≡ in_order node first second k
  same_order Zero = ap₂ option_or (same_through Zero first) (same_through One second)
  same_order One = ap₂ option_or (same_through One second) (same_through Zero first)

  same_through_active : through_active node (map counted both) ≡ through_active node both
  unfolding through_active
  same_through_active =
      ap (option_and_then (in_order node (counted first) (counted second))) same_active
      ∙ then_same (in_order node (counted first) (counted second)) (in_order node first second) same_order (active both)

  same_barred : (slot : Slot) → is_barred (slots_of node) (map counted both) slot ≡ is_barred (slots_of node) both slot
  unfolding is_barred
  same_barred slot = simp (same_bars (slots_of node) slot first, same_bars (slots_of node) slot second)

  same_candidate : (slot : Slot) → candidate node (map counted both) slot ≡ candidate node both slot
  unfolding candidate
  same_candidate slot = ap (λ (barred : Bool). if barred then None else option_map (Found slot) (passing node (OtaSlot slot))) (same_barred slot)

  same_search : (s k : ℕ) → first_from node (map counted both) s k ≡ first_from node both s k
  unfolding first_from
  same_search s zero = refl
  same_search s (suc k) = ap₂ option_or (same_candidate (record { 0 = s })) (same_search (s + 1) k)

  same_choice : choice node (map counted both) ≡ choice node both
  unfolding choice last_search
  same_choice = ap₂ option_or same_through_active (ap (option_or (factory node)) (same_search 0 (slots_of node)))

  same_no_good : hold_no_good (map counted both) ≡ hold_no_good both
  same_no_good = simp (same_err first, same_err second)

  same_register : (settings : Settings) (made : Choice) → register_after settings (map counted both) made ≡ register_after settings both made
  same_register settings (Recorded k slot facts) = refl
  same_register settings (Factory facts) = refl
  same_register settings (Found slot facts) = simp same_no_good

  same_reply : (settings : Settings) (made : Option Choice) → reply_by settings (map counted both) made ≡ reply_by settings both made
  same_reply settings None = refl
  same_reply settings (Some (Recorded k slot facts)) = refl
  same_reply settings (Some (Factory facts)) = refl
  same_reply settings (Some (Found slot facts)) =
      ap (λ (register : ℕ). Ok (record { app = OtaSlot slot; through = None; register = register; facts = facts })) (same_register settings (Found slot facts))

-- without rollback step 1 leaves both sectors alone
unmarked : (settings : Settings) (otadata : List ℕ) → length otadata ≡ 8192 → settings.rollback ≡ false
    → readings (first_of settings otadata) (second_of settings otadata) ≡ readings_of otadata
unmarked settings otadata size off =
    ap₂ readings (no_settling settings (take 4096 otadata) off) (no_settling settings (drop 4096 otadata) off ∙ sym (second_is otadata size))

pub without_rollback : WithoutRollback
unfolding WithoutRollback
without_rollback boot node off accepts =
    let given = accepted_is boot node accepts in
    let first = read_sector (sector Zero boot.otadata) in
    let second = read_sector (sector One boot.otadata) in
    let node_off : node.settings.rollback ≡ false = ap (λ (s : Settings). s.rollback) given.same_settings ∙ off in
    let same_made = same_choice node first second in
    reply_accepted boot node accepts
    ∙ ap (λ (rs : List Reading). reply_by node.settings rs (choice node rs)) (unmarked node.settings boot.otadata given.size node_off)
    ∙ ap (λ (s : Settings). reply_by s (first ∷ second ∷ []) (choice node (first ∷ second ∷ []))) given.same_settings
    ∙ ap (reply_by boot.settings (first ∷ second ∷ [])) (sym same_made)
    ∙ sym (same_reply node first second boot.settings (choice node (map counted (first ∷ second ∷ []))))
