-- Which of two readings is the active record: the one that is usable and of the higher sequence.
-- Assumes nothing.
use Rattle.std.proofs.Common.{◌≡◌, ◌<◌, ◌⊎◌, Bool, true, false, is_some, if◌then◌else◌, List, [], ◌∷◌, Option, Some, None, option_map, option_and_then, Ok, Err, refl, sym, ap, ◌∙◌}
use Rattle.std.specs.Prelude.{IsSome}
use Rattle.std.specs.Result.{result_ok}
use Rattle.otadata.specs.declared.records.Record.{Record}
use Rattle.otadata.specs.declared.records.Sequence.{Sequence}
use Rattle.otadata.specs.State.{is_usable}
use Rattle.otadata.specs.Record.{Reading}
use Rattle.sectors.specs.declared.reading.SectorNumber.{SectorNumber}
use Rattle.sectors.specs.declared.reading.SectorNumber.TheVariants.{Zero, One}
use Rattle.sectors.specs.Sector.{other_than, usable_sequence, highest, active}
use Rattle.sectors.proofs.Activity.{own, other, highest_there, highest_none, highest_alone, highest_above, highest_stays}
use Rattle.slot_records.specs.Naming.{held_at, active_at}
use Rattle.boot_laws.proofs.Choices.{reading_at}

-- ---- a usable record

its_own : (b : Bool) (q : Sequence) → IsSome (if b then Some q else None) → (if b then Some q else None) ≡ Some q
its_own true q is = refl
its_own false q is = cc

-- a usable reading is of a record, whose sequence it gives
pub of_usable : (reading : Reading) → IsSome (usable_sequence reading) → (r : Record) × ((reading ≡ Ok r) × (usable_sequence reading ≡ Some r.sequence))
of_usable (Err fault) is = absurd cc
of_usable (Ok r) is = (r, (refl, its_own (is_usable r.state) r.sequence is))

-- ---- the active record

mapped : (k : SectorNumber) (reading : Reading) (held : SectorNumber × Record) → option_map (λ r. (k, r)) (result_ok reading) ≡ Some held
    → (k ≡ held.0) × (reading ≡ Ok held.1)
mapped k (Ok r) held is = let same : (k, r) ≡ held = cc in (ap (λ (x : SectorNumber × Record). x.0) same, ap (λ (x : SectorNumber × Record). Ok x.1) same)
mapped k (Err fault) held is = cc

module _ (first second : Reading) where
  abbrev both : List Reading
  both = first ∷ second ∷ []

  -- it is usable
  usable_there : (k : SectorNumber) → active both ≡ Some k → IsSome (usable_sequence (reading_at first second k))
  usable_there Zero is = highest_there (usable_sequence first) (usable_sequence second) Zero is
  usable_there One is = highest_there (usable_sequence first) (usable_sequence second) One is

  holds : (k : SectorNumber) (r : Record) → reading_at first second k ≡ Ok r → held_at first second k ≡ Some (k, r)
  holds Zero r is = ap (λ x. option_map (λ r. (Zero, r)) (result_ok x)) is
  holds One r is = ap (λ x. option_map (λ r. (One, r)) (result_ok x)) is

  pub is_active_at : (k : SectorNumber) (r : Record) → active both ≡ Some k → reading_at first second k ≡ Ok r → active_at both ≡ Some (k, r)
  unfolding active_at
  is_active_at k r is at = ap (option_and_then (held_at first second)) is ∙ holds k r at

  -- the record in its sector, whose sequence counts
  pub active_record : (k : SectorNumber) → active both ≡ Some k
      → (r : Record) × ((reading_at first second k ≡ Ok r) × (usable_sequence (reading_at first second k) ≡ Some r.sequence))
  active_record k is = of_usable (reading_at first second k) (usable_there k is)

  held_by : (k : SectorNumber) (held : SectorNumber × Record) → held_at first second k ≡ Some held → (k ≡ held.0) × (reading_at first second k ≡ Ok held.1)
  held_by Zero held is = mapped Zero first held is
  held_by One held is = mapped One second held is

  at_held : (o : Option SectorNumber) (held : SectorNumber × Record) → option_and_then (held_at first second) o ≡ Some held
      → (o ≡ Some held.0) × (reading_at first second held.0 ≡ Ok held.1)
  at_held None held is = cc
  at_held (Some k) held is =
      let found = held_by k held is in
      (ap (λ j. Some j) found.0, sym (ap (reading_at first second) found.0) ∙ found.1)

  pub of_active : (held : SectorNumber × Record) → active_at both ≡ Some held → (active both ≡ Some held.0) × (reading_at first second held.0 ≡ Ok held.1)
  unfolding active_at
  of_active held is = at_held (active both) held is

  no_active : (o : Option SectorNumber) → active both ≡ o → active_at both ≡ None → active both ≡ None
  no_active None is none = is
  no_active (Some k) is none =
      let found = active_record k is in
      let held = is_active_at k found.0 is found.1.0 in
      cc

  -- with no active record, the second is not usable
  pub none_usable : active_at both ≡ None → usable_sequence second ≡ None
  none_usable none = (highest_none (usable_sequence first) (usable_sequence second) (no_active (active both) refl none)).1

-- ---- the higher of two

by_other : (x y : Option Sequence) (k : SectorNumber) (q : Sequence) (o : Option Sequence) → own k x y ≡ Some q → other k x y ≡ o
    → ((p : Sequence) → o ≡ Some p → p.0 < q.0) → highest x y ≡ Some k
by_other x y k q None is beside below = highest_alone x y k (ap is_some is) beside
by_other x y k q (Some p) is beside below = highest_above x y k q p is beside (below p refl)

-- a usable record is active if its sequence is above that of the other, where that is usable
pub is_highest : (q : Sequence) (first second : Reading) (k : SectorNumber) → usable_sequence (reading_at first second k) ≡ Some q
    → ((p : Sequence) → usable_sequence (reading_at first second (other_than k)) ≡ Some p → p.0 < q.0)
    → active (first ∷ second ∷ []) ≡ Some k
is_highest q first second Zero is below = by_other (usable_sequence first) (usable_sequence second) Zero q (usable_sequence second) is refl below
is_highest q first second One is below = by_other (usable_sequence first) (usable_sequence second) One q (usable_sequence first) is refl below

-- it stays active where the other one is lost
pub stays_active : (first second left_first left_second : Reading) (k : SectorNumber)
    → reading_at left_first left_second k ≡ reading_at first second k
    → ((usable_sequence (reading_at left_first left_second (other_than k)) ≡ usable_sequence (reading_at first second (other_than k)))
    ⊎ (usable_sequence (reading_at left_first left_second (other_than k)) ≡ None))
    → active (first ∷ second ∷ []) ≡ Some k → active (left_first ∷ left_second ∷ []) ≡ Some k
stays_active first second left_first left_second Zero same beside is =
    highest_stays (usable_sequence first) (usable_sequence second) (usable_sequence left_first) (usable_sequence left_second) Zero is (ap usable_sequence same) beside
stays_active first second left_first left_second One same beside is =
    highest_stays (usable_sequence first) (usable_sequence second) (usable_sequence left_first) (usable_sequence left_second) One is (ap usable_sequence same) beside
