-- What a sector reads as, and which record is active.
use Rattle.std.specs.Prelude.{ℕ, Bool, true, false, List, [], ◌∷◌, length, take, Option, Some, None, Ok, Err, ◌==◌, nat_lt, if◌then◌else◌}
use Rattle.otadata.specs.declared.TheConstants.{RECORD_SIZE}
use Rattle.otadata.specs.declared.records.Sequence.{Sequence}
use Rattle.otadata.specs.State.{is_usable}
use Rattle.otadata.specs.Record.{Reading, read}
use Rattle.sectors.specs.declared.TheConstants.{SECTOR_SIZE}
use Rattle.sectors.specs.declared.reading.SectorNumber.{SectorNumber}
use Rattle.sectors.specs.declared.reading.SectorNumber.TheVariants.{Zero, One}
use Rattle.sectors.specs.Part.{Part}

-- the number of a sector
abbrev pub number_of_sector : SectorNumber → ℕ
number_of_sector Zero = 0
number_of_sector One = 1

-- the other sector
abbrev pub other_than : SectorNumber → SectorNumber
other_than Zero = One
other_than One = Zero

-- ---- reading

-- the record of a sector is its first 32 bytes; a sector has 4,096, and bytes of another length hold no record
unfoldable pub record_in : List ℕ → List ℕ
record_in sector = if length sector == SECTOR_SIZE then take RECORD_SIZE sector else []

-- what a sector reads as
abbrev pub read_sector : List ℕ → Reading
read_sector sector = read (record_in sector)

-- what both sectors read as, indexed by sector number
abbrev pub readings : List ℕ → List ℕ → List Reading
readings first second = read_sector first ∷ read_sector second ∷ []

-- ---- the active record

-- the sequence of a usable record
abbrev pub usable_sequence : Reading → Option Sequence
usable_sequence (Ok r) = if is_usable r.state then Some r.sequence else None
usable_sequence (Err fault) = None

-- the sector of the higher of two sequences, sector 0 on a tie
abbrev pub highest : Option Sequence → Option Sequence → Option SectorNumber
highest None None = None
highest (Some first) None = Some Zero
highest None (Some second) = Some One
highest (Some first) (Some second) = Some (if nat_lt first.0 second.0 then One else Zero)

-- the sector of the active record: the usable one with the higher sequence, sector 0 on a tie; a missing reading counts as none
abbrev pub active : List Reading → Option SectorNumber
active [] = None
active (first ∷ []) = highest (usable_sequence first) None
active (first ∷ second ∷ rest) = highest (usable_sequence first) (usable_sequence second)

-- of two records by which of them count, and whether the second has the higher sequence: the higher, sector 0 on a tie
abbrev pub higher_of : Bool → Bool → Bool → Option SectorNumber
higher_of false false higher = None
higher_of true false higher = Some Zero
higher_of false true higher = Some One
higher_of true true higher = Some (if higher then One else Zero)

-- ---- as parts of what was lent

-- the record of a sector
abbrev pub record_part : Part → Part
record_part sector = record { place = sector.place; content = record_in sector.content }

-- the record in the sector of that number; where there is none, an empty part
abbrev pub part_at : Option SectorNumber → Part → Part → Part
part_at None first second = record { place = first.place; content = [] }
part_at (Some Zero) first second = record_part first
part_at (Some One) first second = record_part second

-- the active record, as a part of whichever sector holds it
abbrev pub active_part : Part → Part → Part
active_part first second = part_at (active (readings first.content second.content)) first second
