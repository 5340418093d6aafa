-- Witnesses of what the table's examples of calls assume: a node, and otadata, of which it holds.
use Rattle.std.specs.Prelude.{ℕ, ◌<◌, ◌≡◌, true, List, ◌++◌, replicate}
use Rattle.otadata.specs.declared.records.Record.{Record}
use Rattle.otadata.specs.declared.states.State.{State}
use Rattle.otadata.specs.declared.states.State.TheVariants.{Valid, Aborted}
use Rattle.otadata.specs.Record.{is_sequence, bytes_of}
use Rattle.sectors.specs.declared.reading.SectorNumber.{SectorNumber}
use Rattle.app_image.specs.declared.Facts.{Facts}
use Rattle.boot_choice.specs.Example.{example_list, example_flash, example_settings}
use Rattle.boot_laws.specs.PowerCut.{otadata_of}
use Rattle.worked_examples.specs.Table.{good, Accepts, ActiveIs, Reads}

-- a record of sequence q in that state, its label 20 bytes 0xFF
abbrev pub record_of : ℕ → State → Record
record_of q state = record { sequence = record { 0 = q }; label = replicate 20 0xFF; state = state }

-- a sector with that record, the bytes after it erased
abbrev pub holding : ℕ → State → List ℕ
holding q state = bytes_of (record_of q state) ++ replicate 4064 0xFF

-- a blank sector
abbrev pub blank : List ℕ
blank = replicate 32 0xFF ++ replicate 4064 0xFF

pub record Witness : Type 0 where
  -- the example node has two slots, and each passes
  pub node : (s : ℕ) → s < 2 → (facts : Facts) × Accepts example_list example_flash example_settings 2 s facts
  -- in either sector, a valid record of any good record's sequence, with a blank sector beside it
  pub active_alone : (k : SectorNumber) (q : ℕ) → is_sequence q ≡ true → ActiveIs example_settings (otadata_of k (holding q Valid) blank) k q
  -- sequences 4 valid and 5 aborted
  pub two_records : (k : SectorNumber) → Reads (otadata_of k (holding 4 Valid) (holding 5 Aborted)) k (good 4 Valid) (good 5 Aborted)
