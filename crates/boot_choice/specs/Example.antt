-- An example of a node: two slots, both of whose apps pass.
use Rattle.std.specs.Prelude.{ℕ, ◌≡◌, true, false, List, [], ◌∷◌, ◌++◌, length, take, replicate, Ok}
use Rattle.app_image.specs.Example.{board_of, one_segment}
use Rattle.partitions.specs.declared.list.App.TheVariants.{Factory, OtaSlot}
use Rattle.partitions.specs.PartitionList.{entries_of}
use Rattle.node.specs.declared.Node.{Node}
use Rattle.node.specs.declared.Settings.{Settings}
use Rattle.node.specs.Node.{otadata_size, node_of}
use Rattle.boot_choice.specs.Choice.{Passes}
use Rattle.boot_choice.specs.Parts.{accepted}

-- slot 0 at 0 and slot 1 at 65,536, of 4,096 bytes each
abbrev pub example_list : List ℕ
example_list = 16 ∷ 0 ∷ 4096 ∷ 17 ∷ 65536 ∷ 4096 ∷ []

-- n bytes of one value
unfoldable pub filled : ℕ → ℕ → List ℕ
filled n byte = replicate n byte

-- the bytes of a slot: the 304 bytes of the image of one segment, then zeros
unfoldable pub example_slot : List ℕ
example_slot = take 304 (one_segment 0) ++ filled 3792 0

-- slot 0, zeros up to 65,536, slot 1
unfoldable pub example_flash : List ℕ
example_flash = example_slot ++ filled 61440 0 ++ example_slot

-- both protections are on; the version of the register is 1, as that of the image
abbrev pub example_settings : Settings
example_settings = record { board = board_of 0 0; efuse = 1; rollback = true; anti_rollback = true }

abbrev pub example_node : Node
example_node = record { list = record { entries = entries_of example_list; flash = example_flash }; settings = example_settings }

-- the first three tests pass; factory, which is not listed, does not pass, and each slot does
pub record ExampleNode : Type 0 where
  pub accepts : accepted example_list (length example_flash) otadata_size example_settings ≡ Ok (record { slots = 2; factory = false })
  pub is_node : node_of example_list example_flash otadata_size example_settings ≡ Ok example_node
  pub no_factory : Passes example_node Factory → ⊥
  pub slot_0_passes : Passes example_node (OtaSlot (record { 0 = 0 }))
  pub slot_1_passes : Passes example_node (OtaSlot (record { 0 = 1 }))
