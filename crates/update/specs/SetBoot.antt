-- Set-boot: the record that names a slot, and where it is written.
use Rattle.std.specs.Prelude.{ℕ, List, ◌++◌, length, take, drop, replicate, is_some, Option, Some, None, Result, Ok, Err, if◌then◌else◌}
use Rattle.std.specs.Result.{result_unwrap_or}
use Rattle.otadata.specs.declared.records.Record.{Record}
use Rattle.otadata.specs.declared.records.Sequence.{Sequence}
use Rattle.otadata.specs.declared.records.Slot.{Slot}
use Rattle.otadata.specs.declared.states.State.{State}
use Rattle.otadata.specs.declared.states.State.TheVariants.{New, Undefined}
use Rattle.otadata.specs.Record.{Reading, bytes_of}
use Rattle.sectors.specs.declared.TheConstants.{SECTOR_SIZE}
use Rattle.sectors.specs.declared.reading.SectorNumber.{SectorNumber}
use Rattle.sectors.specs.declared.reading.SectorNumber.TheVariants.{Zero, One}
use Rattle.sectors.specs.Rewrite.{rewrite}
use Rattle.slot_records.specs.declared.Placement.{Placement}
use Rattle.slot_records.specs.Naming.{active_naming}
use Rattle.slot_records.specs.Placing.{placement}
use Rattle.app_image.specs.declared.Facts.{Facts}
use Rattle.partitions.specs.declared.list.App.TheVariants.{OtaSlot}
use Rattle.node.specs.declared.Settings.{Settings}
use Rattle.node.specs.declared.Node.{Node}
use Rattle.node.specs.declared.refusal.Refusal.{Refusal}
use Rattle.node.specs.declared.refusal.Refusal.TheVariants.{SequenceSpent}
use Rattle.node.specs.Node.{admitted}
use Rattle.node.specs.Refusal.{◌>>=◌, ◌>>◌}
use Rattle.boot_choice.specs.Choice.{slots_of}
use Rattle.update.specs.declared.Completion.{Completion}
use Rattle.update.specs.Tests.{node_with, pending_test, readings_in, changed_at}

-- ---- the new record

-- state new with rollback on, else undefined
abbrev pub new_state : Settings → State
new_state settings = if settings.rollback then New else Undefined

-- its label is 20 bytes 0xFF
abbrev pub new_record : Settings → Sequence → Record
new_record settings sequence = record { sequence = sequence; label = replicate 20 0xFF; state = new_state settings }

-- a sector that is rewritten with it
unfoldable pub overwritten : Settings → Sequence → List ℕ → List ℕ
overwritten settings sequence sector = result_unwrap_or (rewrite sector (bytes_of (new_record settings sequence))) sector

-- ---- the tests in their order, and what is to be written

-- 7: no sequence is left
abbrev pub if_placed : Option Placement → Result (Option Placement) Refusal
if_placed None = Err SequenceSpent
if_placed (Some placed) = Ok (Some placed)

-- nothing is written where the active record names the slot already
unfoldable pub new_placement : ℕ → Slot → List Reading → Result (Option Placement) Refusal
new_placement n slot readings =
    if is_some (active_naming n slot readings) then Ok None else if_placed (placement n slot readings)

-- 5 and 6, 11, 7: the facts of the slot's image, and where the new record goes, if one is written
unfoldable pub decision : Node → List Reading → Slot → Result (Facts × Option Placement) Refusal
decision node readings slot = do
  facts ← admitted node (OtaSlot slot)
  pending_test node.settings readings
  write ← new_placement (slots_of node) slot readings
  Ok (facts, write)

-- ---- the reply and the bytes

-- the register as it was given
abbrev pub reply_to : Settings → Result (Facts × Option Placement) Refusal → Result Completion Refusal
reply_to settings (Err refusal) = Err refusal
reply_to settings (Ok decided) = Ok (record { register = settings.efuse; facts = decided.0 })

-- what is left of sector k
abbrev pub written_at : Settings → SectorNumber → Option Placement → List ℕ → List ℕ
written_at settings k None sector = sector
written_at settings k (Some placed) sector = changed_at k placed.sector (overwritten settings placed.sequence) sector

abbrev pub left_at : Settings → SectorNumber → Result (Facts × Option Placement) Refusal → List ℕ → List ℕ
left_at settings k (Err refusal) sector = sector
left_at settings k (Ok decided) sector = written_at settings k decided.1 sector

-- ---- the call

abbrev pub reply_in : List ℕ → Slot → Result Node Refusal → Result Completion Refusal
reply_in otadata slot (Err refusal) = Err refusal
reply_in otadata slot (Ok node) = reply_to node.settings (decision node (readings_in otadata) slot)

abbrev pub bytes_in : List ℕ → Slot → Result Node Refusal → List ℕ
bytes_in otadata slot (Err refusal) = otadata
bytes_in otadata slot (Ok node) =
    let decided = decision node (readings_in otadata) slot in
    left_at node.settings Zero decided (take SECTOR_SIZE otadata) ++ left_at node.settings One decided (drop SECTOR_SIZE otadata)

unfoldable pub set_boot_reply : List ℕ → List ℕ → List ℕ → Settings → Slot → Result Completion Refusal
set_boot_reply words flash otadata settings slot = reply_in otadata slot (node_with words flash (length otadata) settings slot)

unfoldable pub set_boot_bytes : List ℕ → List ℕ → List ℕ → Settings → Slot → List ℕ
set_boot_bytes words flash otadata settings slot = bytes_in otadata slot (node_with words flash (length otadata) settings slot)
