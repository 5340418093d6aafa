-- Mark-invalid: the running app is given up.
use Rattle.std.specs.Prelude.{ℕ, ◌&&◌, List, [], ◌∷◌, ◌++◌, length, map, take, drop, is_none, Result, Ok, Err, if◌then◌else◌}
use Rattle.otadata.specs.declared.records.Slot.{Slot}
use Rattle.otadata.specs.declared.states.State.TheVariants.{Pending, Invalid, Aborted}
use Rattle.otadata.specs.Record.{Reading, in_state}
use Rattle.sectors.specs.declared.TheConstants.{SECTOR_SIZE}
use Rattle.sectors.specs.declared.reading.SectorNumber.{SectorNumber}
use Rattle.sectors.specs.declared.reading.SectorNumber.TheVariants.{Zero, One}
use Rattle.sectors.specs.Rewrite.{in_other_state, restated}
use Rattle.node.specs.declared.Settings.{Settings}
use Rattle.node.specs.declared.Node.{Node}
use Rattle.node.specs.declared.refusal.Refusal.{Refusal}
use Rattle.node.specs.declared.refusal.Refusal.TheVariants.{NoFallback}
use Rattle.node.specs.declared.refusal.Refused.{Refused}
use Rattle.node.specs.Refusal.{◌>>=◌, ◌>>◌, refuse_if}
use Rattle.boot_choice.specs.Choice.{choice}
use Rattle.update.specs.Tests.{node_with, running_sector, readings_in, changed_at}

-- ---- what boot would find

-- what boot's first step makes of a record: with rollback on, a pending one is aborted
unfoldable pub settled_reading : Settings → Reading → Reading
settled_reading settings reading = if settings.rollback && in_state Pending reading then in_other_state Aborted reading else reading

-- both readings, where the record of sector k is invalid
abbrev pub with_invalid : SectorNumber → List Reading → List Reading
with_invalid k [] = []
with_invalid Zero (first ∷ []) = in_other_state Invalid first ∷ []
with_invalid One (first ∷ []) = first ∷ []
with_invalid Zero (first ∷ second ∷ rest) = in_other_state Invalid first ∷ second ∷ []
with_invalid One (first ∷ second ∷ rest) = first ∷ in_other_state Invalid second ∷ []

-- what boot's first step makes of those
unfoldable pub readings_without : Settings → SectorNumber → List Reading → List Reading
readings_without settings k readings = map (settled_reading settings) (with_invalid k readings)

-- ---- the tests in their order

-- 9: boot would choose nothing, once the record of sector k is invalid
abbrev pub fallback_test : Node → List Reading → SectorNumber → Result (Unit {0}) Refusal
fallback_test node readings k = refuse_if (is_none (choice node (readings_without node.settings k readings))) NoFallback

-- 8, then 9: the sector of the active record, which names the running slot and without which boot has an app to start
unfoldable pub invalidation : Node → List Reading → Slot → Result SectorNumber Refusal
invalidation node readings running = do
  sector ← running_sector node readings running
  fallback_test node readings sector
  Ok sector

-- ---- the reply and the bytes

abbrev pub reply_to : Result SectorNumber Refusal → Result (Unit {0}) Refusal
reply_to (Err refusal) = Err refusal
reply_to (Ok sector) = Ok tt

-- what is left of sector k
abbrev pub left_at : SectorNumber → Result SectorNumber Refusal → List ℕ → List ℕ
left_at k (Err refusal) sector = sector
left_at k (Ok found) sector = changed_at k found (restated Invalid) sector

-- ---- the call

abbrev pub reply_in : List ℕ → Slot → Result Node Refusal → Result (Unit {0}) Refusal
reply_in otadata running (Err refusal) = Err refusal
reply_in otadata running (Ok node) = reply_to (invalidation node (readings_in otadata) running)

abbrev pub bytes_in : List ℕ → Slot → Result Node Refusal → List ℕ
bytes_in otadata running (Err refusal) = otadata
bytes_in otadata running (Ok node) =
    let found = invalidation node (readings_in otadata) running in
    left_at Zero found (take SECTOR_SIZE otadata) ++ left_at One found (drop SECTOR_SIZE otadata)

unfoldable pub mark_invalid_reply : List ℕ → List ℕ → List ℕ → Settings → Slot → Result (Unit {0}) Refusal
mark_invalid_reply words flash otadata settings running = reply_in otadata running (node_with words flash (length otadata) settings running)

unfoldable pub mark_invalid_bytes : List ℕ → List ℕ → List ℕ → Settings → Slot → List ℕ
mark_invalid_bytes words flash otadata settings running = bytes_in otadata running (node_with words flash (length otadata) settings running)

-- the caller gets the register as it was given, done or refused
abbrev pub giving_register : Settings → Result (Unit {0}) Refusal → Result ℕ Refused
giving_register settings (Ok done) = Ok settings.efuse
giving_register settings (Err refusal) = Err (record { refusal = refusal; register = settings.efuse })
