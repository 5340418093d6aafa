-- Witnesses of the claim: on the example node, in either sector, calls of which all that it assumes holds, with one outcome and with the other.
use Rattle.std.specs.Prelude.{ℕ, List, [], ◌∷◌, ◌++◌, replicate}
use Rattle.otadata.specs.declared.records.Record.{Record}
use Rattle.otadata.specs.declared.states.State.{State}
use Rattle.otadata.specs.declared.states.State.TheVariants.{New, Valid}
use Rattle.otadata.specs.Record.{bytes_of}
use Rattle.sectors.specs.declared.reading.SectorNumber.{SectorNumber}
use Rattle.sectors.specs.Sector.{other_than}
use Rattle.sectors.specs.PowerCut.{Call, rewrite_cut, store_refused, after}
use Rattle.boot_choice.specs.Example.{filled, example_list, example_flash, example_settings, example_node}
use Rattle.boot_laws.specs.Laws.{reply}
use Rattle.boot_laws.specs.PowerCut.{StartsRecord, Case, next_boot, Premises, OwnPrevails}

-- a record whose label is 20 bytes 0xFF, and a sector with it, the bytes after it erased
abbrev pub record_with : ℕ → State → Record
record_with q state = record { sequence = record { 0 = q }; label = replicate 20 0xFF; state = state }

abbrev pub sector_with : Record → List ℕ
sector_with r = bytes_of r ++ filled 4064 0xFF

-- the untouched sector: a valid record of sequence 2, which names slot 1
abbrev pub old_record : Record
old_record = record_with 2 Valid

unfoldable pub untouched_sector : List ℕ
untouched_sector = sector_with old_record

-- the other sector is rewritten with a new record of sequence 255, which names slot 0: the byte that is stored last is 0xFF, as an erased one
abbrev pub new_record : Record
new_record = record_with 255 New

unfoldable pub new_bytes : List ℕ
new_bytes = bytes_of new_record

-- it starts blank
abbrev pub blank_sector : List ℕ
blank_sector = filled 4096 0xFF

-- a single store that is lent the sector without its first byte
abbrev pub refused_store : Call
refused_store = store_refused 1 4095 new_bytes 0

-- a rewrite that is cut in the middle, and the refused store
abbrev pub earlier_calls : List Call
earlier_calls = rewrite_cut new_bytes 2000 ∷ refused_store ∷ []

-- the bytes that they leave
abbrev pub sector_before : List ℕ
sector_before = after earlier_calls blank_sector

-- and again a rewrite, cut at k
abbrev pub example_calls : ℕ → List Call
example_calls k = earlier_calls ++ (rewrite_cut new_bytes k ∷ [])

-- these calls on sector p, and the untouched sector beside it
abbrev pub example_case : ℕ → SectorNumber → Case
example_case k p = record {
  p = p;
  start = blank_sector;
  calls = example_calls k;
  before = sector_before;
  bytes = new_bytes;
  k = k;
  other = untouched_sector;
  untouched = old_record;
  words = example_list;
  flash = example_flash;
  settings = example_settings;
  node = example_node;
}

-- the two outcomes, in sector p
pub record WitnessesIn (p : SectorNumber) : Type 0 where
  -- cut one store before the end: the new record prevails, and boot starts slot 0 through it
  pub late : Premises (example_case 4127 p)
  pub prevails : OwnPrevails (example_case 4127 p)
  pub starts_new : StartsRecord example_node (reply (next_boot (example_case 4127 p))) p new_record
  -- cut in the middle: nothing prevails there, and boot starts slot 1 through the untouched record
  pub middle : Premises (example_case 2000 p)
  pub loses : OwnPrevails (example_case 2000 p) → ⊥
  pub starts_old : StartsRecord example_node (reply (next_boot (example_case 2000 p))) (other_than p) old_record

-- in either sector
unfoldable pub Witnesses : Type 0
Witnesses = (p : SectorNumber) → WitnessesIn p
