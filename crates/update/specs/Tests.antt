-- What the calls share: tests 4, 8 and 11, and the write into one of the two sectors.
use Rattle.std.specs.Prelude.{ℕ, not, ◌&&◌, nat_lt, List, take, drop, ok_or, Result, Ok}
use Rattle.otadata.specs.declared.records.Slot.{Slot}
use Rattle.otadata.specs.Record.{Reading}
use Rattle.sectors.specs.declared.TheConstants.{SECTOR_SIZE}
use Rattle.sectors.specs.declared.reading.SectorNumber.{SectorNumber}
use Rattle.sectors.specs.declared.reading.SectorNumber.TheVariants.{Zero, One}
use Rattle.sectors.specs.Sector.{readings}
use Rattle.slot_records.specs.Naming.{active_naming, active_pending}
use Rattle.node.specs.declared.Settings.{Settings}
use Rattle.node.specs.declared.Node.{Node}
use Rattle.node.specs.declared.refusal.Refusal.{Refusal}
use Rattle.node.specs.declared.refusal.Refusal.TheVariants.{NoSuchSlot, NotNamed, ActivePending}
use Rattle.node.specs.Node.{node_of}
use Rattle.node.specs.Refusal.{◌>>=◌, ◌>>◌, refuse_if}
use Rattle.boot_choice.specs.Choice.{slots_of}

-- 4: a slot that is not below n
unfoldable pub slot_test : ℕ → Slot → Result (Unit {0}) Refusal
slot_test n slot = refuse_if (not (nat_lt slot.0 n)) NoSuchSlot

-- 1 to 4
unfoldable pub node_with : List ℕ → List ℕ → ℕ → Settings → Slot → Result Node Refusal
node_with words flash size settings slot = do
  node ← node_of words flash size settings
  slot_test (slots_of node) slot
  Ok node

-- 8: no active record names the running slot; else the sector of that record
abbrev pub running_sector : Node → List Reading → Slot → Result SectorNumber Refusal
running_sector node readings running = ok_or (active_naming (slots_of node) running readings) NotNamed

-- 11: with rollback on, an active record that is pending
unfoldable pub pending_test : Settings → List Reading → Result (Unit {0}) Refusal
pending_test settings readings = refuse_if (settings.rollback && active_pending readings) ActivePending

-- ---- the two sectors

-- what the two sectors of otadata read as
abbrev pub readings_in : List ℕ → List Reading
readings_in otadata = readings (take SECTOR_SIZE otadata) (drop SECTOR_SIZE otadata)

-- sector k, where sector j is changed
abbrev pub changed_at : (k j : SectorNumber) → (List ℕ → List ℕ) → List ℕ → List ℕ
changed_at Zero Zero change sector = change sector
changed_at One One change sector = change sector
changed_at _ _ change sector = sector
