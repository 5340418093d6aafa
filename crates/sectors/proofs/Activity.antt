-- Which of two readings is the active record.
use Rattle.std.proofs.Common.{◌≡◌, ◌⊎◌, ◌<◌, is_some, Option, Some, None, refl, ap, ap₂, ◌∙◌, inl, inr, arith}
use Rattle.std.specs.Prelude.{IsSome}
use Rattle.std.proofs.lemmas.Bool.Decides.{nat_tests}
use Rattle.otadata.specs.declared.records.Sequence.{Sequence}
use Rattle.sectors.specs.declared.reading.SectorNumber.{SectorNumber}
use Rattle.sectors.specs.declared.reading.SectorNumber.TheVariants.{Zero, One}
use Rattle.sectors.specs.Sector.{highest}

-- of two sequences, those of the sector and of the other one
abbrev pub own : SectorNumber → Option Sequence → Option Sequence → Option Sequence
own Zero first second = first
own One first second = second

abbrev pub other : SectorNumber → Option Sequence → Option Sequence → Option Sequence
other Zero first second = second
other One first second = first

-- the higher one is there
pub highest_there : (first second : Option Sequence) (k : SectorNumber) → highest first second ≡ Some k → IsSome (own k first second)
highest_there None None k is = cc
highest_there (Some p) None Zero is = refl
highest_there (Some p) None One is = cc
highest_there None (Some q) Zero is = cc
highest_there None (Some q) One is = refl
highest_there (Some p) (Some q) Zero is = refl
highest_there (Some p) (Some q) One is = refl

-- where there is none, neither is there
pub highest_none : (first second : Option Sequence) → highest first second ≡ None → (first ≡ None) × (second ≡ None)
highest_none None None is = (refl, refl)
highest_none (Some p) None is = cc
highest_none None (Some q) is = cc
highest_none (Some p) (Some q) is = cc

-- it is the higher one where the other is not there
pub highest_alone : (first second : Option Sequence) (k : SectorNumber) → IsSome (own k first second) → other k first second ≡ None → highest first second ≡ Some k
highest_alone (Some p) None Zero there gone = refl
highest_alone None (Some q) One there gone = refl
highest_alone None second Zero there gone = cc
highest_alone first None One there gone = cc
highest_alone (Some p) (Some q) Zero there gone = cc
highest_alone (Some p) (Some q) One there gone = cc

-- and where the other is lower
pub highest_above : (first second : Option Sequence) (k : SectorNumber) (p q : Sequence) → own k first second ≡ Some p → other k first second ≡ Some q → q.0 < p.0
    → highest first second ≡ Some k
highest_above first second Zero p q is_own is_other below = grind (arith, nat_tests)
highest_above first second One p q is_own is_other below = grind (arith, nat_tests)

-- it stays the higher one where the other one goes
pub highest_stays : (first second left_first left_second : Option Sequence) (k : SectorNumber) → highest first second ≡ Some k
    → own k left_first left_second ≡ own k first second
    → (other k left_first left_second ≡ other k first second) ⊎ (other k left_first left_second ≡ None)
    → highest left_first left_second ≡ Some k
highest_stays first second left_first left_second Zero is same (inl too) = ap₂ highest same too ∙ is
highest_stays first second left_first left_second One is same (inl too) = ap₂ highest too same ∙ is
highest_stays first second left_first left_second k is same (inr gone) =
    highest_alone left_first left_second k (ap is_some same ∙ highest_there first second k is) gone
