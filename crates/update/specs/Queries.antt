-- The state query and the next update slot. They write nothing.
use Rattle.std.specs.Prelude.{ℕ, ◌+◌, ◌%◌, List, [], ◌∷◌, length, Option, None, option_map, option_and_then, ok_or, Result, Ok, Err}
use Rattle.std.specs.Result.{result_ok}
use Rattle.otadata.specs.declared.records.Slot.{Slot}
use Rattle.otadata.specs.declared.records.Fault.TheVariants.{WrongSize}
use Rattle.otadata.specs.declared.states.State.{State}
use Rattle.otadata.specs.Record.{Reading}
use Rattle.sectors.specs.declared.reading.SectorNumber.{SectorNumber}
use Rattle.sectors.specs.declared.reading.SectorNumber.TheVariants.{Zero, One}
use Rattle.slot_records.specs.Naming.{naming_record}
use Rattle.partitions.specs.declared.list.App.{App}
use Rattle.partitions.specs.declared.list.App.TheVariants.{Factory, OtaSlot}
use Rattle.partitions.specs.PartitionList.{list_of, slot_count}
use Rattle.node.specs.declared.Settings.{Settings}
use Rattle.node.specs.declared.refusal.Refusal.{Refusal}
use Rattle.node.specs.declared.refusal.Refusal.TheVariants.{NotNamed}
use Rattle.node.specs.Node.{list_test, size_test, node_of}
use Rattle.node.specs.Refusal.{◌>>=◌, ◌>>◌}
use Rattle.boot_choice.specs.Choice.{slots_of}
use Rattle.update.specs.Tests.{slot_test, pending_test, readings_in}

-- ---- the state query

abbrev pub state_in : Reading → Reading → SectorNumber → Option State
state_in first second Zero = option_map (λ r. r.state) (result_ok first)
state_in first second One = option_map (λ r. r.state) (result_ok second)

-- the active record's state if it names the slot, else that of the good record of highest sequence that names it
unfoldable pub state_naming : ℕ → Slot → List Reading → Option State
state_naming n slot [] = None
state_naming n slot (first ∷ []) = option_and_then (state_in first (Err WrongSize)) (naming_record n slot (first ∷ []))
state_naming n slot (first ∷ second ∷ rest) = option_and_then (state_in first second) (naming_record n slot (first ∷ second ∷ rest))

-- 1, 2, 4 and 8
unfoldable pub state_query : List ℕ → List ℕ → List ℕ → Slot → Result State Refusal
state_query words flash otadata slot = do
  list ← list_test (list_of words flash)
  size_test (length otadata)
  slot_test (slot_count list.entries) slot
  ok_or (state_naming (slot_count list.entries) slot (readings_in otadata)) NotNamed

-- ---- the next update slot

-- 4, and (running + 1) mod n; from factory, slot 0
unfoldable pub slot_after : ℕ → App → Result Slot Refusal
slot_after n Factory = Ok (record { 0 = 0 })
slot_after n (OtaSlot slot) = slot_test n slot >> Ok (record { 0 = (slot.0 + 1) % n })

-- 1 to 4 and 11
unfoldable pub next_slot : List ℕ → List ℕ → List ℕ → Settings → App → Result Slot Refusal
next_slot words flash otadata settings running = do
  node ← node_of words flash (length otadata) settings
  next ← slot_after (slots_of node) running
  pending_test node.settings (readings_in otadata)
  Ok next
