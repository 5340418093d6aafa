-- The definitions on examples, evaluated.
use Rattle.std.proofs.Common.{◌≡◌, ℕ, List, [], ◌∷◌, length, Option, Some, None, Err, IsSome, is_ok, false, true≢false, refl, sym, ap, ◌∙◌, arith}
use Rattle.std.proofs.lemmas.Bool.Decides.{nat_tests}
use Rattle.std.specs.Int.Count.{ones_in}
use Rattle.efuse.specs.Register.{width, set_lowest, raised}
use Rattle.otadata.specs.declared.records.Fault.{Fault}
use Rattle.otadata.specs.declared.states.State.TheVariants.{Aborted}
use Rattle.otadata.specs.Record.{Reading}
use Rattle.partitions.specs.declared.list.App.TheVariants.{OtaSlot}
use Rattle.partitions.specs.PartitionList.{keep_rules, slot_count, is_right, list_of}
use Rattle.app_image.specs.declared.Facts.{Facts}
use Rattle.node.specs.declared.Node.{Node}
use Rattle.node.specs.declared.refusal.Refusal.TheVariants.{BadList}
use Rattle.node.specs.Node.{otadata_size, node_of, passing}
use Rattle.boot_choice.specs.declared.Choice.TheVariants.{Found}
use Rattle.boot_choice.specs.Choice.{slots_of, through_reading, through_active, factory, is_barred, candidate, first_from, last_search, choice}
use Rattle.boot_choice.specs.Example.{example_settings}
use Rattle.boot_choice.proofs.Examples.{is_node}
use Rattle.boot.specs.Boot.{Accepts}
use Rattle.boot.specs.Examples.{slot_1, good, no_record, ThroughFour, FallsBack, PassesOver, Raises, BootExamples}

-- ---- a fall back

through_four : (node : Node) (facts : Facts) (a b : List ℕ) → slots_of node ≡ 2 → passing node (OtaSlot slot_1) ≡ Some facts → ThroughFour node facts a b
unfolding choice through_active through_reading
through_four node facts a b two passes = record { in_sector_0 = rw (two, passes) refl; in_sector_1 = rw (two, passes) refl }

facts_of : (some : Option Facts) → IsSome some → (facts : Facts) × (some ≡ Some facts)
facts_of None is = cc
facts_of (Some facts) is = (facts, refl)

falls_back : FallsBack
falls_back node a b two passes =
    let (facts, is) = facts_of (passing node (OtaSlot slot_1)) passes in (facts, through_four node facts a b two is)

-- ---- the last search

abbrev aborted_alone : Fault → List Reading
aborted_alone b = good 5 Aborted [] ∷ no_record b ∷ []

module _ (node : Node) (facts : Facts) (b : Fault) (two : slots_of node ≡ 2) where
  slot_0_barred : candidate node (aborted_alone b) (record { 0 = 0 }) ≡ None
  unfolding candidate is_barred
  slot_0_barred = rw two refl

  slot_1_found : passing node (OtaSlot slot_1) ≡ Some facts → candidate node (aborted_alone b) slot_1 ≡ Some (Found slot_1 facts)
  unfolding candidate is_barred
  slot_1_found passes = rw (two, passes) refl

passes_over : PassesOver
unfolding choice through_active through_reading factory last_search first_from
passes_over node facts b two passes no_factory =
    rw (two, no_factory, slot_0_barred node facts b two, slot_1_found node facts b two passes) refl

-- ---- the register

raises : (a b : Fault) (facts : Facts) → facts.version.0 ≡ 4 → Raises a b facts
unfolding width raised set_lowest ones_in
raises a b facts is = record { on_32_bits = rw is refl; on_16_bits = rw is refl; not_with_a_record = λ chip. refl }

-- ---- an empty list

empty_breaks_rules : (capacity : ℕ) → keep_rules [] capacity ≡ false
unfolding keep_rules slot_count
empty_breaks_rules capacity = grind (arith, nat_tests)

no_node : (flash : List ℕ) → node_of [] flash otadata_size example_settings ≡ Err BadList
unfolding node_of list_of is_right
no_node flash = rw (empty_breaks_rules (length flash)) refl

-- ---- all of them

pub boot_examples : BootExamples
boot_examples =
    record {
      falls_back = falls_back;
      passes_over = passes_over;
      raises = raises;
      higher = refl;
      tie = refl;
      accepts = ap is_ok is_node;
      no_list = λ (flash : List ℕ) (accepts : Accepts [] flash otadata_size example_settings). true≢false (sym accepts ∙ ap is_ok (no_node flash));
    }
