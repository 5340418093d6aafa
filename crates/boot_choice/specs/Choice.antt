-- Which app boot chooses, of a node whose two sectors read so.
use Rattle.std.specs.Prelude.{ℕ, zero, suc, ◌+◌, Bool, false, not, ◌&&◌, ◌==◌, List, [], ◌∷◌, IsSome, Option, None, option_map, option_and_then, Ok, Err, if◌then◌else◌}
use Rattle.std.specs.Option.{option_or}
use Rattle.std.specs.List.{list_any}
use Rattle.otadata.specs.declared.records.Slot.{Slot}
use Rattle.otadata.specs.declared.records.Fault.TheVariants.{WrongSize}
use Rattle.otadata.specs.State.{is_usable}
use Rattle.otadata.specs.Record.{Reading, slot_of}
use Rattle.sectors.specs.declared.reading.SectorNumber.{SectorNumber}
use Rattle.sectors.specs.declared.reading.SectorNumber.TheVariants.{Zero, One}
use Rattle.sectors.specs.Sector.{usable_sequence, active}
use Rattle.partitions.specs.declared.list.App.{App}
use Rattle.partitions.specs.declared.list.App.TheVariants.{Factory as FactoryApp, OtaSlot}
use Rattle.partitions.specs.PartitionList.{slot_count}
use Rattle.node.specs.declared.Node.{Node}
use Rattle.node.specs.Node.{passing}
use Rattle.boot_choice.specs.declared.Choice.{Choice}
use Rattle.boot_choice.specs.declared.Choice.TheVariants.{Recorded, Factory, Found}

-- n, of the node's list
abbrev pub slots_of : Node → ℕ
slots_of node = slot_count node.list.entries

-- the app passes
abbrev pub Passes : Node → App → Type 0
Passes node app = IsSome (passing node app)

-- ---- through a record

abbrev pub through_slot : Node → SectorNumber → Slot → Option Choice
through_slot node k slot = option_map (Recorded k slot) (passing node (OtaSlot slot))

-- the slot that a usable record names
unfoldable pub through_reading : Node → SectorNumber × Reading → Option Choice
through_reading node one = option_and_then (λ q. through_slot node one.0 (slot_of (slots_of node) q)) (usable_sequence one.1)

abbrev pub through_either : Node → SectorNumber × Reading → SectorNumber × Reading → Option Choice
through_either node one other = option_or (through_reading node one) (through_reading node other)

-- the active record's slot, then that of the other usable record; a missing reading counts as none
abbrev pub in_order : Node → Reading → Reading → SectorNumber → Option Choice
in_order node first second Zero = through_either node (Zero, first) (One, second)
in_order node first second One = through_either node (One, second) (Zero, first)

unfoldable pub through_active : Node → List Reading → Option Choice
through_active node [] = None
through_active node (first ∷ []) = option_and_then (in_order node first (Err WrongSize)) (active (first ∷ []))
through_active node (first ∷ second ∷ rest) = option_and_then (in_order node first second) (active (first ∷ second ∷ rest))

-- ---- factory, if listed

unfoldable pub factory : Node → Option Choice
factory node = option_map Factory (passing node FactoryApp)

-- ---- the last search

-- an invalid or aborted record that names the slot, with n slots
abbrev pub is_barred_by : ℕ → Slot → Reading → Bool
is_barred_by n slot (Ok r) = not (is_usable r.state) && ((slot_of n r.sequence).0 == slot.0)
is_barred_by n slot (Err fault) = false

unfoldable pub is_barred : ℕ → List Reading → Slot → Bool
is_barred n readings slot = list_any (is_barred_by n slot) readings

-- a slot that no invalid or aborted record names, and that passes
unfoldable pub candidate : Node → List Reading → Slot → Option Choice
candidate node readings slot =
    if is_barred (slots_of node) readings slot then None else option_map (Found slot) (passing node (OtaSlot slot))

-- the first of the k slots from s on, counted upward
unfoldable pub first_from : Node → List Reading → ℕ → ℕ → Option Choice
first_from node readings s zero = None
first_from node readings s (suc k) = option_or (candidate node readings (record { 0 = s })) (first_from node readings (s + 1) k)

-- the first of all slots
unfoldable pub last_search : Node → List Reading → Option Choice
last_search node readings = first_from node readings 0 (slots_of node)

-- ---- the choice

-- the active record's slot, the other usable record's slot, factory, the last search, whichever gives an app first
unfoldable pub choice : Node → List Reading → Option Choice
choice node readings = option_or (through_active node readings) (option_or (factory node) (last_search node readings))
