-- The next boot where the active record's app passes, and what a new record makes active.
use Rattle.std.proofs.Common.{◌≡◌, ℕ, ◌<◌, Bool, true, false, is_some, if◌then◌else◌, List, [], ◌∷◌, length, Option, Some, None, Ok, ◌⊎◌, inl, inr, ⊎_elim, refl, sym, ap, subst, ◌∙◌}
use Rattle.otadata.specs.declared.records.Record.{Record}
use Rattle.otadata.specs.declared.records.Sequence.{Sequence}
use Rattle.otadata.specs.declared.states.State.TheVariants.{New, Pending, Aborted, Undefined}
use Rattle.otadata.specs.State.{is_usable}
use Rattle.otadata.specs.Record.{Reading, slot_of}
use Rattle.sectors.specs.declared.reading.SectorNumber.{SectorNumber}
use Rattle.sectors.specs.declared.reading.SectorNumber.TheVariants.{Zero, One}
use Rattle.sectors.specs.Sector.{other_than, read_sector, readings, usable_sequence, active}
use Rattle.sectors.specs.Otadata.{readings_of}
use Rattle.partitions.specs.declared.list.App.TheVariants.{OtaSlot}
use Rattle.app_image.specs.declared.Facts.{Facts}
use Rattle.node.specs.declared.Settings.{Settings}
use Rattle.node.specs.declared.Node.{Node}
use Rattle.node.specs.Node.{passing}
use Rattle.boot_choice.specs.declared.Choice.TheVariants.{Recorded}
use Rattle.boot_choice.specs.Choice.{slots_of, choice}
use Rattle.boot.specs.Boot.{settled, first_of, second_of}
use Rattle.boot_laws.specs.Laws.{Boot, sector, accepted, reply, marked}
use Rattle.boot_laws.proofs.Marks.{Restates}
use Rattle.boot_laws.proofs.Choices.{reading_at, through_own}
use Rattle.boot_laws.proofs.Boots.{marked_sector, marked_readings, accepted_is, after_marks, reply_chosen}
use Rattle.boot_laws.proofs.Changes.{settles, left_alone}
use Rattle.slot_records.specs.Naming.{active_at}
use Rattle.slot_records.specs.Placing.{free_sector, active_sequence}
use Rattle.update.specs.SetBoot.{new_record}
use Rattle.update_laws.proofs.Activity.{of_usable, active_record, of_active, none_usable, stays_active}

-- ---- the reading of a sector

pub reads_sector : (otadata : List ℕ) (k : SectorNumber)
    → reading_at (read_sector (sector Zero otadata)) (read_sector (sector One otadata)) k ≡ read_sector (sector k otadata)
reads_sector otadata Zero = refl
reads_sector otadata One = refl

-- ---- step 1 of boot

-- a record that is aborted is lost
lost : (settings : Settings) (s : List ℕ) → Restates settings Pending Aborted s (settled settings s) → usable_sequence (read_sector (settled settings s)) ≡ None
lost settings s change = ap usable_sequence change.is

lost_or_same : (settings : Settings) (s : List ℕ)
    → (usable_sequence (read_sector (settled settings s)) ≡ usable_sequence (read_sector s)) ⊎ (usable_sequence (read_sector (settled settings s)) ≡ None)
lost_or_same settings s =
    ⊎_elim
    (λ (same : settled settings s ≡ s). inl (ap (λ (x : List ℕ). usable_sequence (read_sector x)) same))
    (λ (change : Restates settings Pending Aborted s (settled settings s)). inr (lost settings s change))
    (settles settings s)

-- ---- the next boot

module _ (boot : Boot) (node : Node) (is : accepted boot ≡ Ok node) (k : SectorNumber) (r : Record)
    (is_active : active (readings_of boot.otadata) ≡ Some k) (holds : read_sector (sector k boot.otadata) ≡ Ok r)
    (not_pending : boot.settings.rollback ≡ true → r.state ≡ Pending → ⊥) where
  abbrev o : List ℕ
  o = boot.otadata

  abbrev after : List ℕ
  after = marked boot.settings o

  size : length o ≡ 8192
  size = (accepted_is boot node is).size

  same_settings : node.settings ≡ boot.settings
  same_settings = (accepted_is boot node is).same_settings

  -- the sectors after the marks
  reads_after : (j : SectorNumber) → read_sector (sector j after) ≡ read_sector (settled boot.settings (sector j o))
  reads_after j = ap read_sector (marked_sector boot.settings o size j)

  own_stays : read_sector (sector k after) ≡ read_sector (sector k o)
  own_stays = reads_after k ∙ ap read_sector (left_alone boot.settings (sector k o) r holds not_pending)

  other_stays : (j : SectorNumber) → (usable_sequence (read_sector (sector j after)) ≡ usable_sequence (read_sector (sector j o)))
      ⊎ (usable_sequence (read_sector (sector j after)) ≡ None)
  other_stays j = rw (marked_sector boot.settings o size j) (lost_or_same boot.settings (sector j o))

  at_o : (j : SectorNumber) → reading_at (read_sector (sector Zero o)) (read_sector (sector One o)) j ≡ read_sector (sector j o)
  at_o = reads_sector o

  at_after : (j : SectorNumber) → reading_at (read_sector (sector Zero after)) (read_sector (sector One after)) j ≡ read_sector (sector j after)
  at_after = reads_sector after

  still_active : active (readings_of after) ≡ Some k
  still_active =
      stays_active (read_sector (sector Zero o)) (read_sector (sector One o)) (read_sector (sector Zero after)) (read_sector (sector One after)) k
      (at_after k ∙ own_stays ∙ sym (at_o k))
      (rw (at_after (other_than k), at_o (other_than k)) (other_stays (other_than k)))
      is_active

  usable : usable_sequence (read_sector (sector k o)) ≡ Some r.sequence
  usable =
      let found = active_record (read_sector (sector Zero o)) (read_sector (sector One o)) k is_active in
      let same : found.0 ≡ r = cc (found.1.0, at_o k, holds) in
      ap usable_sequence (sym (at_o k)) ∙ found.1.1 ∙ ap (λ (x : Record). Some x.sequence) same

  pub starts_active : (facts : Facts) → passing node (OtaSlot (slot_of (slots_of node) r.sequence)) ≡ Some facts
      → reply boot ≡ Ok (record { app = OtaSlot (slot_of (slots_of node) r.sequence); through = Some k; register = boot.settings.efuse; facts = facts })
  starts_active facts passes =
      let first = read_sector (sector Zero after) in
      let second = read_sector (sector One after) in
      let chosen : choice node (readings_of after) ≡ Some (Recorded k (slot_of (slots_of node) r.sequence) facts) =
      through_own node first second k r.sequence facts still_active (ap usable_sequence (at_after k ∙ own_stays) ∙ usable) passes in
      let by_node : choice node (after_marks node o) ≡ Some (Recorded k (slot_of (slots_of node) r.sequence) facts) =
      ap (λ (s : Settings). choice node (readings (first_of s o) (second_of s o))) same_settings
      ∙ ap (choice node) (sym (marked_readings boot.settings o size))
      ∙ chosen in
      reply_chosen boot node (Recorded k (slot_of (slots_of node) r.sequence) facts) is by_node
      ∙ ap (λ (s : Settings). Ok (record { app = OtaSlot (slot_of (slots_of node) r.sequence); through = Some k; register = s.efuse; facts = facts })) same_settings

-- ---- a new record

-- its state is usable, and never pending
pub new_usable : (settings : Settings) (q : Sequence) → usable_sequence (Ok (new_record settings q)) ≡ Some q
new_usable settings q = by settings.rollback
  where
    by : (b : Bool) → (if is_usable (if b then New else Undefined) then Some q else None) ≡ Some q
    by true = refl
    by false = refl

pub new_not_pending : (settings : Settings) (q : Sequence) → (new_record settings q).state ≡ Pending → ⊥
new_not_pending settings q = by settings.rollback
  where
    by : (b : Bool) → (if b then New else Undefined) ≡ Pending → ⊥
    by true is = cc
    by false is = cc

-- ---- it is the active one

-- a usable record holds its sequence
sequence_held : (reading : Reading) (r : Record) (p : Sequence) → reading ≡ Ok r → usable_sequence reading ≡ Some p → r.sequence ≡ p
sequence_held reading r p is usable =
    let found = of_usable reading (ap is_some usable) in
    let same : found.0 ≡ r = cc (found.1.0, is) in
    let its : found.0.sequence ≡ p = cc (found.1.1, usable) in
    ap (λ (x : Record). x.sequence) (sym same) ∙ its

-- of the two readings before, the sector that gets the record is not the active one, and the sequence is above the active one's
module _ (first second : Reading) (q : Sequence) where
  abbrev Above : Option (SectorNumber × Record) → Type 0
  Above held = (active_sequence held).0 < q.0

  pub below_by : (o : Option (SectorNumber × Record)) → active_at (first ∷ second ∷ []) ≡ o → Above o
      → (p : Sequence) → usable_sequence (reading_at first second (other_than (free_sector o))) ≡ Some p → p.0 < q.0
  below_by None is above p usable =
      let none = none_usable first second is in
      absurd (let z : None ≡ Some p = sym none ∙ usable in cc)
  below_by (Some (Zero, r)) is above p usable =
      let held = of_active first second (Zero, r) is in
      subst (λ (x : Sequence). x.0 < q.0) (sequence_held first r p held.1 usable) above
  below_by (Some (One, r)) is above p usable =
      let held = of_active first second (One, r) is in
      subst (λ (x : Sequence). x.0 < q.0) (sequence_held second r p held.1 usable) above
