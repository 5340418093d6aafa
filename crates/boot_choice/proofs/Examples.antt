-- The example node: its flash is two images with zeros between them, and each app's part is one of the two.
use Rattle.std.proofs.Common.{◌≡◌, ℕ, true, false, ◌++◌, length, take, is_some, true≢false, Ok, Some, None, refl, sym, ap, ◌∙◌, append_assoc, arith}
use Rattle.std.proofs.lemmas.Grind.{common_steps}
use Rattle.std.proofs.lemmas.List.{take_at, drop_at, take_all}
use Rattle.std.specs.Int.Count.{ones_in}
use Rattle.efuse.specs.Register.{width}
use Rattle.partitions.specs.declared.list.App.{App}
use Rattle.partitions.specs.declared.list.App.TheVariants.{Factory, OtaSlot}
use Rattle.partitions.specs.PartitionList.{entries_of, times_listed, slot_count, has_each_slot_once, all_keep_rules, is_apart_from_all, are_apart, keep_rules, is_right, list_of, check as check_list, has_factory, entry_with, image_of}
use Rattle.app_image.specs.Layout.{segment_at, segments_from, walked}
use Rattle.app_image.specs.Check.{revision_fits, header_test, descriptor_test, length_test, checksum_test, version_test, digest_test, facts_of, check}
use Rattle.app_image.specs.Example.{one_segment, one_segment_facts}
use Rattle.node.specs.Node.{size_test, settings_test, node_of, image, admitted, passing}
use Rattle.boot_choice.specs.Parts.{accepted_node, accepted}
use Rattle.boot_choice.specs.Choice.{Passes}
use Rattle.boot_choice.specs.Example.{example_list, filled, example_slot, example_flash, example_settings, example_node, ExampleNode}

-- ---- the bytes

slot_accepted : check example_slot example_settings.board ≡ Ok one_segment_facts
unfolding example_slot filled one_segment width check header_test revision_fits walked segments_from segment_at descriptor_test length_test checksum_test version_test digest_test facts_of
slot_accepted = refl

slot-length : length example_slot ≡ 4096
unfolding example_slot filled one_segment
slot-length = refl

filled-length : (n byte : ℕ) → length (filled n byte) ≡ n
unfolding filled
filled-length n byte = grind (arith, common_steps)

front_length : length (example_slot ++ filled 61440 0) ≡ 65536
front_length = grind (arith, common_steps, slot-length, filled-length 61440 0)

flash_length : length example_flash ≡ 69632
unfolding example_flash
flash_length = grind (arith, common_steps, slot-length, filled-length 61440 0)

-- ---- the list

rules_kept : keep_rules (entries_of example_list) 69632 ≡ true
unfolding keep_rules times_listed slot_count has_each_slot_once all_keep_rules are_apart is_apart_from_all
rules_kept = refl

list_right : is_right example_list (length example_flash) ≡ true
unfolding is_right
list_right = ap (keep_rules (entries_of example_list)) flash_length ∙ rules_kept

listed : list_of example_list example_flash ≡ Ok example_node.list
unfolding list_of
listed = rw list_right refl

pub is_node : node_of example_list example_flash 8192 example_settings ≡ Ok example_node
unfolding node_of size_test settings_test has_factory
is_node = rw listed refl

accepts : accepted example_list (length example_flash) 8192 example_settings ≡ Ok (record { slots = 2; factory = false })
unfolding accepted accepted_node check_list size_test settings_test has_factory slot_count
accepts = rw list_right refl

-- ---- the apps

image_0 : image example_node (OtaSlot (record { 0 = 0 })) ≡ example_slot
unfolding image_of entry_with example_flash
image_0 =
    ap (take 4096) (append_assoc example_slot (filled 61440 0) example_slot)
    ∙ take_at example_slot (filled 61440 0 ++ example_slot) 4096 slot-length

image_1 : image example_node (OtaSlot (record { 0 = 1 })) ≡ example_slot
unfolding image_of entry_with example_flash
image_1 =
    ap (take 4096) (drop_at (example_slot ++ filled 61440 0) example_slot 65536 front_length)
    ∙ take_all 4096 example_slot (omega (arith, slot-length))

pub slot_passes : (app : App) → image example_node app ≡ example_slot → passing example_node app ≡ Some one_segment_facts
unfolding passing admitted width ones_in
slot_passes app is = rw (is, slot_accepted) refl

pub passes_0 : passing example_node (OtaSlot (record { 0 = 0 })) ≡ Some one_segment_facts
passes_0 = slot_passes _ image_0

pub passes_1 : passing example_node (OtaSlot (record { 0 = 1 })) ≡ Some one_segment_facts
passes_1 = slot_passes _ image_1

pub factory_fails : passing example_node Factory ≡ None
unfolding passing admitted image_of entry_with check
factory_fails = refl

pub example_is_so : ExampleNode
example_is_so =
    record {
      accepts = accepts;
      is_node = is_node;
      no_factory = λ (passes : Passes example_node Factory). true≢false (sym passes ∙ ap is_some factory_fails);
      slot_0_passes = ap is_some passes_0;
      slot_1_passes = ap is_some passes_1;
    }
