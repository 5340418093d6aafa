-- The rows of the table that are calls: by the laws of these calls.
-- Assumes nothing.
use Rattle.std.proofs.Common.{◌≡◌, ℕ, ◌<◌, ◌==◌, ◌&&◌, Bool, true, false, nat_lt, nat_le, List, [], ◌∷◌, length, Some, None, Option, Result, Ok, Err, refl, sym, ap, ap₂, subst, ◌∙◌, take-append-drop, arith}
use Rattle.std.proofs.lemmas.Bool.Decides.{nat_tests}
use Rattle.otadata.specs.declared.TheConstants.{LAST_SEQUENCE}
use Rattle.otadata.specs.declared.records.Record.{Record}
use Rattle.otadata.specs.declared.records.Sequence.{Sequence}
use Rattle.otadata.specs.declared.records.Slot.{Slot}
use Rattle.otadata.specs.declared.states.State.{State}
use Rattle.otadata.specs.declared.states.State.TheVariants.{New, Pending, Valid, Invalid, Aborted, Undefined}
use Rattle.otadata.specs.State.{word_of, is_usable}
use Rattle.otadata.specs.Record.{Reading, slot_of}
use Rattle.sectors.specs.declared.reading.SectorNumber.{SectorNumber}
use Rattle.sectors.specs.declared.reading.SectorNumber.TheVariants.{Zero, One}
use Rattle.sectors.specs.Sector.{number_of_sector, other_than, read_sector, usable_sequence, active}
use Rattle.sectors.specs.Otadata.{readings_of}
use Rattle.partitions.specs.declared.list.App.TheVariants.{OtaSlot}
use Rattle.app_image.specs.declared.Facts.{Facts}
use Rattle.node.specs.declared.Settings.{Settings}
use Rattle.node.specs.declared.Node.{Node}
use Rattle.node.specs.declared.refusal.Refusal.{Refusal}
use Rattle.node.specs.declared.refusal.Refusal.TheVariants.{SequenceSpent}
use Rattle.node.specs.Node.{node_of, passing}
use Rattle.boot_choice.specs.Choice.{slots_of}
use Rattle.boot.specs.Answer.{answer_of as answer_of_boot}
use Rattle.boot_laws.specs.Laws.{sector, accepted}
use Rattle.boot_laws.proofs.Boots.{accepted_is}
use Rattle.slot_records.specs.declared.Placement.{Placement}
use Rattle.slot_records.specs.Naming.{active_at, active_naming, active_pending}
use Rattle.slot_records.specs.Placing.{next_sequence, placement}
use Rattle.update.specs.Answer.{answer_of as answer_of_set}
use Rattle.update.specs.Tests.{slot_test, node_with, pending_test, readings_in}
use Rattle.update.specs.SetBoot.{new_placement}
use Rattle.update_laws.specs.Laws.{Given, set_boot, boot_on}
use Rattle.update_laws.proofs.Nodes.{passes_admitted}
use Rattle.update_laws.proofs.Done.{set_passes}
use Rattle.update_laws.proofs.Activity.{is_active_at, is_highest}
use Rattle.update_laws.proofs.Pointing.{reads_sector, starts_active}
use Rattle.update_laws.proofs.Laws.{same_readings, left, left_other, left_reads, law}
use Rattle.worked_examples.specs.Table.{slot, held, good, gives, Accepts, ActiveIs, set, set_refused, boots, Holds}

-- ---- what a sector holds

pub of_held : (reading : Reading) (q : ℕ) (state : State) → held reading ≡ good q state
    → (r : Record) × ((reading ≡ Ok r) × (r.sequence ≡ record { 0 = q }) × (r.state ≡ state))
of_held (Err fault) q state is = absurd cc
of_held (Ok r) q state is =
    let both : (r.sequence, r.state) ≡ (record { 0 = q }, state) = cc in
    (r, (refl, ap (λ (x : Sequence × State). x.0) both, ap (λ (x : Sequence × State). x.1) both))

-- a usable record, and one that is not
usable_by : (r : Record) (q : Sequence) (state : State) → r.sequence ≡ q → r.state ≡ state → is_usable state ≡ true → usable_sequence (Ok r) ≡ Some q
usable_by r q state of_sequence of_state usable = rw (of_state, usable, of_sequence) refl

lost_by : (r : Record) (state : State) → r.state ≡ state → is_usable state ≡ false → usable_sequence (Ok r) ≡ None
lost_by r state of_state gone = rw (of_state, gone) refl

-- ---- set-boot

-- test 11 passes
not_pended : (rollback : Bool) (state : State) → (rollback ≡ true → state ≡ Pending → ⊥) → (rollback && (word_of state == word_of Pending)) ≡ false
not_pended false state not = refl
not_pended true New not = refl
not_pended true Pending not = absurd (not refl refl)
not_pended true Valid not = refl
not_pended true Invalid not = refl
not_pended true Aborted not = refl
not_pended true Undefined not = refl

pending_passes : (settings : Settings) (readings : List Reading) (k : SectorNumber) (r : Record) → active_at readings ≡ Some (k, r)
    → (settings.rollback ≡ true → r.state ≡ Pending → ⊥) → pending_test settings readings ≡ Ok tt
unfolding pending_test active_pending
pending_passes settings readings k r is not = rw (is, not_pended settings.rollback r.state not) refl

slot_passes : (n : ℕ) (slot : Slot) → slot.0 < n → slot_test n slot ≡ Ok tt
unfolding slot_test
slot_passes n slot below = grind (arith, nat_tests)

with_slot_of : (words flash : List ℕ) (size : ℕ) (settings : Settings) (slot : Slot) (node : Node) → node_of words flash size settings ≡ Ok node
    → slot.0 < slots_of node → node_with words flash size settings slot ≡ Ok node
unfolding node_with
with_slot_of words flash size settings slot node is below = rw (is, slot_passes (slots_of node) slot below) refl

-- slot s is one of n, and the record of sequence q names another
pub record Moves (n q s : ℕ) : Type 0 where
  pub below : nat_lt s n ≡ true
  pub another : ((slot_of n (record { 0 = q })).0 == s) ≡ false

module _ (n q s : ℕ) (moves : Moves n q s) (readings : List Reading) (k : SectorNumber) (r : Record) (is : active_at readings ≡ Some (k, r))
    (of_sequence : r.sequence ≡ record { 0 = q }) where
  not_named : active_naming n (slot s) readings ≡ None
  unfolding active_naming
  not_named = rw (is, of_sequence, moves.another) refl

  placed : (next : ℕ) → next_sequence n (slot s) (record { 0 = q }) ≡ record { 0 = next } → nat_le next LAST_SEQUENCE ≡ true
      → placement n (slot s) readings ≡ Some (record { sector = other_than k; sequence = record { 0 = next } })
  unfolding placement
  placed next is_next fits = rw (is, of_sequence, is_next, moves.below, fits) refl

  spent : (next : ℕ) → next_sequence n (slot s) (record { 0 = q }) ≡ record { 0 = next } → nat_le next LAST_SEQUENCE ≡ false
      → placement n (slot s) readings ≡ None
  unfolding placement
  spent next is_next passes = rw (is, of_sequence, is_next, moves.below, passes) refl

  pub new_placed : (next : ℕ) → next_sequence n (slot s) (record { 0 = q }) ≡ record { 0 = next } → nat_le next LAST_SEQUENCE ≡ true
      → new_placement n (slot s) readings ≡ Ok (Some (record { sector = other_than k; sequence = record { 0 = next } }))
  unfolding new_placement
  new_placed next is_next fits = rw (not_named, placed next is_next fits) refl

  pub new_spent : (next : ℕ) → next_sequence n (slot s) (record { 0 = q }) ≡ record { 0 = next } → nat_le next LAST_SEQUENCE ≡ false
      → new_placement n (slot s) readings ≡ Err SequenceSpent
  unfolding new_placement
  new_spent next is_next passes = rw (not_named, spent next is_next passes) refl

twice : (k : SectorNumber) → other_than (other_than k) ≡ k
twice Zero = refl
twice One = refl

module _ (n q s : ℕ) (moves : Moves n q s) (words flash otadata : List ℕ) (settings : Settings) (k : SectorNumber) (facts : Facts)
    (a : Accepts words flash settings n s facts) (act : ActiveIs settings otadata k q) where
  abbrev g : Given
  g = record { words = words; flash = flash; otadata = otadata; settings = settings; slot = slot s }

  of_boot : accepted (boot_on g otadata) ≡ Ok a.node
  of_boot = ap (λ (m : ℕ). node_of words flash m settings) act.size ∙ a.accepted

  same_settings : a.node.settings ≡ settings
  same_settings = (accepted_is (boot_on g otadata) a.node of_boot).same_settings

  kept : (r : Record) × ((read_sector (sector k otadata) ≡ Ok r) × (r.sequence ≡ record { 0 = q }) × (r.state ≡ act.state))
  kept = of_held (read_sector (sector k otadata)) q act.state act.holds

  is_held : active_at (readings_of otadata) ≡ Some (k, kept.0)
  is_held =
      is_active_at (read_sector (sector Zero otadata)) (read_sector (sector One otadata)) k kept.0 act.is_active (reads_sector otadata k ∙ kept.1.0)

  below : s < slots_of a.node
  below = subst (λ (m : ℕ). s < m) (sym a.slots) (let less : nat_lt s n ≡ true = moves.below in grind (arith, nat_tests))

  tested : node_with words flash (length otadata) settings (slot s) ≡ Ok a.node
  tested = with_slot_of words flash (length otadata) settings (slot s) a.node of_boot below

  pending : pending_test a.node.settings (readings_in otadata) ≡ Ok tt
  pending =
      ap (pending_test a.node.settings) (same_readings otadata act.size)
      ∙ pending_passes a.node.settings (readings_of otadata) k kept.0 is_held
      (λ on is. act.not_pending (ap (λ (x : Settings). x.rollback) (sym same_settings) ∙ on) (sym kept.1.2 ∙ is))

  -- what the decision comes to, by the placement with n slots
  decides : (decided : Result (Option Placement) Refusal) → new_placement n (slot s) (readings_of otadata) ≡ decided
      → new_placement (slots_of a.node) (slot s) (readings_in otadata) ≡ decided
  decides decided is = ap₂ (λ (m : ℕ) (readings : List Reading). new_placement m (slot s) readings) a.slots (same_readings otadata act.size) ∙ is

-- the new sequence is that of the definition, and a good record's
pub set_holds : (n q s next : ℕ) → Moves n q s → next_sequence n (slot s) (record { 0 = q }) ≡ record { 0 = next } → nat_le next LAST_SEQUENCE ≡ true
    → Holds (set n q s next)
set_holds n q s next moves is fits words flash otadata settings k facts a act =
    let held = kept n q s moves words flash otadata settings k facts a act in
    let at = is_held n q s moves words flash otadata settings k facts a act in
    let made : Placement = record { sector = other_than k; sequence = record { 0 = next } } in
    let same = same_settings n q s moves words flash otadata settings k facts a act in
    let call = g n q s moves words flash otadata settings k facts a act in
    let by_placement = placed n q s moves (readings_of otadata) k held.0 at held.1.1 next is fits in
    let new = new_placed n q s moves (readings_of otadata) k held.0 at held.1.1 next is fits in
    let out = set_passes call a.node facts (tested n q s moves words flash otadata settings k facts a act) (passes_admitted a.node (OtaSlot (slot s)) facts a.passes)
    (pending n q s moves words flash otadata settings k facts a act) (Ok (Some made)) (decides n q s moves words flash otadata settings k facts a act (Ok (Some made)) new) in
    let is_left : (set_boot call).otadata ≡ left settings otadata act.size made = out.1 ∙ ap (λ (x : Settings). left x otadata act.size made) same in
    let right = (law settings otadata act.size made n (slot s) by_placement).sequence in
    record {
      answer = ap (answer_of_set settings) out.0 ∙ ap (λ (x : Settings). gives (x.efuse ∷ 0 ∷ 0 ∷ facts.length ∷ facts.entry ∷ [])) same;
      reads = ap (λ (x : List ℕ). read_sector (sector (other_than k) x)) is_left ∙ left_reads settings otadata act.size made right;
      active_stays = ap (λ (x : List ℕ). sector k x) is_left
          ∙ subst (λ (j : SectorNumber). sector j (left settings otadata act.size made) ≡ sector j otadata) (twice k) (left_other settings otadata act.size made);
    }

-- it would pass the last one
pub set_refused_holds : (n q s next : ℕ) → Moves n q s → next_sequence n (slot s) (record { 0 = q }) ≡ record { 0 = next } → nat_le next LAST_SEQUENCE ≡ false
    → Holds (set_refused n q s 7)
set_refused_holds n q s next moves is passes words flash otadata settings k facts a act =
    let held = kept n q s moves words flash otadata settings k facts a act in
    let at = is_held n q s moves words flash otadata settings k facts a act in
    let call = g n q s moves words flash otadata settings k facts a act in
    let new = new_spent n q s moves (readings_of otadata) k held.0 at held.1.1 next is passes in
    let out = set_passes call a.node facts (tested n q s moves words flash otadata settings k facts a act) (passes_admitted a.node (OtaSlot (slot s)) facts a.passes)
    (pending n q s moves words flash otadata settings k facts a act) (Err SequenceSpent) (decides n q s moves words flash otadata settings k facts a act (Err SequenceSpent) new) in
    record { answer = ap (answer_of_set settings) out.0; unchanged = out.1 ∙ take-append-drop 4096 otadata }

-- ---- boot

through : (settings : Settings) (s : ℕ) (k : SectorNumber) (facts : Facts)
    → answer_of_boot settings (Ok (record { app = OtaSlot (slot s); through = Some k; register = settings.efuse; facts = facts }))
    ≡ gives (2 ∷ s ∷ number_of_sector k ∷ settings.efuse ∷ facts.length ∷ facts.entry ∷ [])
through settings s Zero facts = refl
through settings s One facts = refl

-- the first record is usable and not pending, the second is not usable
pub boots_holds : (n q q' : ℕ) (state state' : State) (s : ℕ) → is_usable state ≡ true → (state ≡ Pending → ⊥) → is_usable state' ≡ false
    → slot_of n (record { 0 = q }) ≡ slot s → Holds (boots n (good q state) (good q' state') s)
boots_holds n q q' state state' s usable not_pending gone named words flash otadata settings k facts a rs =
    let call : Given = record { words = words; flash = flash; otadata = otadata; settings = settings; slot = slot s } in
    let of_boot : accepted (boot_on call otadata) ≡ Ok a.node = ap (λ (m : ℕ). node_of words flash m settings) rs.size ∙ a.accepted in
    let own = of_held (read_sector (sector k otadata)) q state rs.own in
    let beside = of_held (read_sector (sector (other_than k) otadata)) q' state' rs.beside in
    let none : usable_sequence (read_sector (sector (other_than k) otadata)) ≡ None = ap usable_sequence beside.1.0 ∙ lost_by beside.0 state' beside.1.2 gone in
    let is_active : active (readings_of otadata) ≡ Some k =
    is_highest (record { 0 = q }) (read_sector (sector Zero otadata)) (read_sector (sector One otadata)) k
    (ap usable_sequence (reads_sector otadata k ∙ own.1.0) ∙ usable_by own.0 (record { 0 = q }) state own.1.1 own.1.2 usable)
    (λ p is. absurd (let z : None ≡ Some p = sym (ap usable_sequence (reads_sector otadata (other_than k)) ∙ none) ∙ is in cc)) in
    let names : slot_of (slots_of a.node) own.0.sequence ≡ slot s = ap₂ (λ (m : ℕ) (p : Sequence). slot_of m p) a.slots own.1.1 ∙ named in
    let started = starts_active (boot_on call otadata) a.node of_boot k own.0 is_active own.1.0 (λ on is. not_pending (sym own.1.2 ∙ is)) facts
    (ap (λ (x : Slot). passing a.node (OtaSlot x)) names ∙ a.passes)
    ∙ ap (λ (x : Slot). Ok (record { app = OtaSlot x; through = Some k; register = settings.efuse; facts = facts })) names in
    ap (answer_of_boot settings) started ∙ through settings s k facts
