-- The state changes of boot, sector by sector: what the aborted marks of step 1 and the pending mark of step 3 leave of each.
-- Assumes nothing.
use Rattle.std.proofs.Common.{◌≡◌, ℕ, true, false, if◌then◌else◌, List, length, Option, Some, None, Ok, inl, inr, ⊎_elim, refl, sym, ap, ◌∙◌}
use Rattle.otadata.specs.declared.records.Record.{Record}
use Rattle.otadata.specs.declared.records.Sequence.{Sequence}
use Rattle.otadata.specs.declared.states.State.{State}
use Rattle.otadata.specs.declared.states.State.TheVariants.{New, Pending, Aborted}
use Rattle.otadata.specs.State.{is_usable}
use Rattle.otadata.specs.Record.{Reading}
use Rattle.sectors.specs.declared.reading.SectorNumber.{SectorNumber}
use Rattle.sectors.specs.declared.reading.SectorNumber.TheVariants.{Zero, One}
use Rattle.sectors.specs.Sector.{read_sector, usable_sequence}
use Rattle.node.specs.declared.Settings.{Settings}
use Rattle.node.specs.declared.Node.{Node}
use Rattle.boot_choice.specs.declared.Choice.{Choice}
use Rattle.boot.specs.Boot.{settled, first_of, second_of, sector_of, pended_at, pended_by}
use Rattle.boot_laws.specs.Laws.{sector}
use Rattle.boot_laws.proofs.Marks.{Restates, KeptOr, marks, length-marked, no_rollback}
use Rattle.boot_laws.proofs.Boots.{first_sector, second_sector, both_sizes, second_is, first_of_size, second_of_size, left_with}

-- ---- step 1

same_record : {a b : Record} → ◌≡◌ {A = Reading} (Ok a) (Ok b) → a ≡ b
same_record e = cc

module _ (settings : Settings) (s : List ℕ) where
  pub settles : KeptOr settings Pending Aborted s (settled settings s)
  unfolding settled
  settles = marks settings Pending Aborted s

  pub no_settling : settings.rollback ≡ false → settled settings s ≡ s
  unfolding settled
  no_settling off = no_rollback settings Pending Aborted s off

  -- where no record is pending, or rollback is off, the sector is left alone
  pub none_alone : (settings.rollback ≡ true → (r : Record) → read_sector s ≡ Ok r → r.state ≡ Pending → ⊥) → settled settings s ≡ s
  none_alone not_pending =
      ⊎_elim
      (λ (same : settled settings s ≡ s). same)
      (λ (change : Restates settings Pending Aborted s (settled settings s)).
      absurd (not_pending change.rollback change.old change.was change.from_state))
      settles

  pub left_alone : (r : Record) → read_sector s ≡ Ok r → (settings.rollback ≡ true → r.state ≡ Pending → ⊥) → settled settings s ≡ s
  left_alone r holds not_pending =
      none_alone (λ on found is pending. not_pending on (ap (λ (x : Record). x.state) (same_record (sym holds ∙ is)) ∙ pending))

-- ---- step 3

module _ (settings : Settings) (s : List ℕ) where
  abbrev Pended : List ℕ → Type 0
  Pended = KeptOr settings New Pending s

  pends_at : (k : SectorNumber) (through : Option SectorNumber) → Pended (pended_at settings k through s)
  pends_at Zero None = inl refl
  pends_at Zero (Some Zero) = marks settings New Pending s
  pends_at Zero (Some One) = inl refl
  pends_at One None = inl refl
  pends_at One (Some Zero) = inl refl
  pends_at One (Some One) = marks settings New Pending s

  pub pends : (k : SectorNumber) (made : Option Choice) → Pended (pended_by settings k made s)
  pends k None = inl refl
  pends k (Some made) = pends_at k (sector_of made)

  length-pended_at : (k : SectorNumber) (through : Option SectorNumber) → length (pended_at settings k through s) ≡ length s
  length-pended_at Zero None = refl
  length-pended_at Zero (Some Zero) = length-marked settings New Pending s
  length-pended_at Zero (Some One) = refl
  length-pended_at One None = refl
  length-pended_at One (Some Zero) = refl
  length-pended_at One (Some One) = length-marked settings New Pending s

  pub length-pended : (k : SectorNumber) (made : Option Choice) → length (pended_by settings k made s) ≡ length s
  length-pended k None = refl
  length-pended k (Some made) = length-pended_at k (sector_of made)

  no_pending_at : settings.rollback ≡ false → (k : SectorNumber) (through : Option SectorNumber) → pended_at settings k through s ≡ s
  no_pending_at off Zero None = refl
  no_pending_at off Zero (Some Zero) = no_rollback settings New Pending s off
  no_pending_at off Zero (Some One) = refl
  no_pending_at off One None = refl
  no_pending_at off One (Some Zero) = refl
  no_pending_at off One (Some One) = no_rollback settings New Pending s off

  pub no_pending : settings.rollback ≡ false → (k : SectorNumber) (made : Option Choice) → pended_by settings k made s ≡ s
  no_pending off k None = refl
  no_pending off k (Some made) = no_pending_at off k (sector_of made)

-- ---- both steps

module _ (node : Node) (otadata : List ℕ) (size : length otadata ≡ 8192) (made : Option Choice) where
  first_left_size : length (pended_by node.settings Zero made (first_of node.settings otadata)) ≡ 4096
  first_left_size = length-pended node.settings (first_of node.settings otadata) Zero made ∙ first_of_size node.settings otadata size

  second_left_size : length (pended_by node.settings One made (second_of node.settings otadata)) ≡ 4096
  second_left_size = length-pended node.settings (second_of node.settings otadata) One made ∙ second_of_size node.settings otadata size

  pub left_size : length (left_with node otadata made) ≡ 8192
  left_size = both_sizes (pended_by node.settings Zero made (first_of node.settings otadata)) (pended_by node.settings One made (second_of node.settings otadata)) first_left_size second_left_size

  -- each sector as both steps leave it
  pub left_sector : (k : SectorNumber) → sector k (left_with node otadata made) ≡ pended_by node.settings k made (settled node.settings (sector k otadata))
  left_sector Zero = first_sector (pended_by node.settings Zero made (first_of node.settings otadata)) (pended_by node.settings One made (second_of node.settings otadata)) first_left_size second_left_size
  left_sector One =
      second_sector (pended_by node.settings Zero made (first_of node.settings otadata)) (pended_by node.settings One made (second_of node.settings otadata)) first_left_size second_left_size
      ∙ ap (λ s. pended_by node.settings One made (settled node.settings s)) (sym (second_is otadata size))

-- ---- usable records

module _ (settings : Settings) (before after : List ℕ) (q : Sequence) where
  -- a record that is usable after the aborted marks was usable before them
  pub usable_before : KeptOr settings Pending Aborted before after → usable_sequence (read_sector after) ≡ Some q → usable_sequence (read_sector before) ≡ Some q
  usable_before (inl same) usable = rw same at usable
  usable_before (inr change) usable = absurd (let aborted : None ≡ Some q = sym (ap usable_sequence change.is) ∙ usable in cc)

  -- and the pending mark keeps it usable
  pub usable_after : KeptOr settings New Pending before after → usable_sequence (read_sector before) ≡ Some q → usable_sequence (read_sector after) ≡ Some q
  usable_after (inl same) usable = rw same usable
  usable_after (inr change) usable =
      let new : usable_sequence (read_sector before) ≡ (if is_usable change.old.state then Some change.old.sequence else None) = ap usable_sequence change.was in
      let is_new : (if is_usable change.old.state then Some change.old.sequence else None) ≡ Some change.old.sequence
      = ap (λ (s : State). if is_usable s then Some change.old.sequence else None) change.from_state in
      ap usable_sequence change.is ∙ sym is_new ∙ sym new ∙ usable
