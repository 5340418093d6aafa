-- Two choices, of nodes and readings by which each try comes to the same.
use Rattle.std.proofs.Common.{◌≡◌, ℕ, zero, suc, ◌+◌, List, [], ◌∷◌, Option, Some, None, Err, refl, sym, ap, ap₂, ◌∙◌}
use Rattle.std.specs.Prelude.{get_or, option_and_then}
use Rattle.std.specs.Option.{option_or}
use Rattle.otadata.specs.declared.records.Slot.{Slot}
use Rattle.otadata.specs.declared.records.Fault.TheVariants.{WrongSize}
use Rattle.otadata.specs.Record.{Reading}
use Rattle.sectors.specs.declared.reading.SectorNumber.{SectorNumber}
use Rattle.sectors.specs.declared.reading.SectorNumber.TheVariants.{Zero, One}
use Rattle.sectors.specs.Sector.{number_of_sector, active}
use Rattle.node.specs.declared.Node.{Node}
use Rattle.boot_choice.specs.Choice.{slots_of, through_reading, in_order, through_active, factory, candidate, first_from, last_search, choice}

-- what a sector reads as; a list that leaves it out has no record there
abbrev pub reading_of : SectorNumber → List Reading → Reading
reading_of k readings = get_or readings (number_of_sector k) (Err WrongSize)

then_same : {A B : Type 0} (f g : A → Option B) → ((a : A) → f a ≡ g a) → (some : Option A) → option_and_then f some ≡ option_and_then g some
then_same f g same None = refl
then_same f g same (Some a) = same a

by_active : (node : Node) (rs : List Reading)
    → through_active node rs ≡ option_and_then (in_order node (reading_of Zero rs) (reading_of One rs)) (active rs)
unfolding through_active
by_active node [] = refl
by_active node (first ∷ []) = refl
by_active node (first ∷ second ∷ rest) = refl

module _ (node node' : Node) (rs rs' : List Reading)
    (same_slots : slots_of node ≡ slots_of node')
    (same_active : active rs ≡ active rs')
    (same_record : (k : SectorNumber) → through_reading node (k, reading_of k rs) ≡ through_reading node' (k, reading_of k rs'))
    (same_factory : factory node ≡ factory node')
    (same_candidate : (s : Slot) → candidate node rs s ≡ candidate node' rs' s) where
  same_order : (k : SectorNumber)
      → in_order node (reading_of Zero rs) (reading_of One rs) k ≡ in_order node' (reading_of Zero rs') (reading_of One rs') k
  same_order Zero = ap₂ option_or (same_record Zero) (same_record One)
  same_order One = ap₂ option_or (same_record One) (same_record Zero)

  same_search : (s k : ℕ) → first_from node rs s k ≡ first_from node' rs' s k
  unfolding first_from
  same_search s zero = refl
  same_search s (suc k) = ap₂ option_or (same_candidate (record { 0 = s })) (same_search (s + 1) k)

  same_through : through_active node rs ≡ through_active node' rs'
  same_through =
      by_active node rs
      ∙ ap (option_and_then (in_order node (reading_of Zero rs) (reading_of One rs))) same_active
      ∙ then_same (in_order node (reading_of Zero rs) (reading_of One rs)) (in_order node' (reading_of Zero rs') (reading_of One rs')) same_order (active rs')
      ∙ sym (by_active node' rs')

  pub same_choice : choice node rs ≡ choice node' rs'
  unfolding choice last_search
  same_choice =
      ap₂ option_or same_through
      (ap₂ option_or same_factory (ap (first_from node rs 0) same_slots ∙ same_search 0 (slots_of node')))
