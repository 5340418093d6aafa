-- Mark-valid: the running app is confirmed.
use Rattle.std.specs.Prelude.{ℕ, List, ◌++◌, length, take, drop, Result, Ok, Err, if◌then◌else◌}
use Rattle.otadata.specs.declared.records.Slot.{Slot}
use Rattle.otadata.specs.declared.states.State.TheVariants.{Valid}
use Rattle.otadata.specs.Record.{Reading, in_state}
use Rattle.efuse.specs.declared.SecureVersion.{SecureVersion}
use Rattle.sectors.specs.declared.TheConstants.{SECTOR_SIZE}
use Rattle.sectors.specs.declared.reading.SectorNumber.{SectorNumber}
use Rattle.sectors.specs.declared.reading.SectorNumber.TheVariants.{Zero, One}
use Rattle.sectors.specs.Sector.{read_sector}
use Rattle.sectors.specs.Rewrite.{restated}
use Rattle.app_image.specs.declared.Facts.{Facts}
use Rattle.partitions.specs.declared.list.App.TheVariants.{OtaSlot}
use Rattle.node.specs.declared.Settings.{Settings}
use Rattle.node.specs.declared.Node.{Node}
use Rattle.node.specs.declared.refusal.Refusal.{Refusal}
use Rattle.node.specs.Settings.{raised_to}
use Rattle.node.specs.Node.{admitted}
use Rattle.node.specs.Refusal.{◌>>=◌}
use Rattle.update.specs.declared.Completion.{Completion}
use Rattle.update.specs.Tests.{node_with, running_sector, readings_in, changed_at}

-- the record of a sector becomes valid; nothing is written if it was
unfoldable pub confirmed : List ℕ → List ℕ
confirmed sector = if in_state Valid (read_sector sector) then sector else restated Valid sector

-- with anti-rollback on, the register raised to the app's version
abbrev pub register_raised : Settings → SecureVersion → ℕ
register_raised settings version = if settings.anti_rollback then raised_to settings version else settings.efuse

-- ---- the tests in their order

-- 8, then 5 and 6: the sector of the active record, which names the running slot, and the facts of that slot's image
unfoldable pub confirmation : Node → List Reading → Slot → Result (SectorNumber × Facts) Refusal
confirmation node readings running = do
  sector ← running_sector node readings running
  facts ← admitted node (OtaSlot running)
  Ok (sector, facts)

-- ---- the reply and the bytes

abbrev pub reply_to : Settings → Result (SectorNumber × Facts) Refusal → Result Completion Refusal
reply_to settings (Err refusal) = Err refusal
reply_to settings (Ok found) = Ok (record { register = register_raised settings found.1.version; facts = found.1 })

-- what is left of sector k
abbrev pub left_at : SectorNumber → Result (SectorNumber × Facts) Refusal → List ℕ → List ℕ
left_at k (Err refusal) sector = sector
left_at k (Ok found) sector = changed_at k found.0 confirmed sector

-- ---- the call

abbrev pub reply_in : List ℕ → Slot → Result Node Refusal → Result Completion Refusal
reply_in otadata running (Err refusal) = Err refusal
reply_in otadata running (Ok node) = reply_to node.settings (confirmation node (readings_in otadata) running)

abbrev pub bytes_in : List ℕ → Slot → Result Node Refusal → List ℕ
bytes_in otadata running (Err refusal) = otadata
bytes_in otadata running (Ok node) =
    let found = confirmation node (readings_in otadata) running in
    left_at Zero found (take SECTOR_SIZE otadata) ++ left_at One found (drop SECTOR_SIZE otadata)

unfoldable pub mark_valid_reply : List ℕ → List ℕ → List ℕ → Settings → Slot → Result Completion Refusal
mark_valid_reply words flash otadata settings running = reply_in otadata running (node_with words flash (length otadata) settings running)

unfoldable pub mark_valid_bytes : List ℕ → List ℕ → List ℕ → Settings → Slot → List ℕ
mark_valid_bytes words flash otadata settings running = bytes_in otadata running (node_with words flash (length otadata) settings running)
