-- The report on two otadata sectors, line by line.
use Rattle.std.specs.Prelude.{ℕ, List, ◌++◌, codes, Option, Some, None, Ok, Err, slice_index_or}
use Rattle.std.specs.Fmt.{decimal}
use Rattle.otadata.specs.declared.records.Record.{Record}
use Rattle.otadata.specs.declared.records.Fault.TheVariants.{WrongSize}
use Rattle.otadata.specs.State.{name_of}
use Rattle.otadata.specs.Answer.{name_of as fault_name_of}
use Rattle.otadata.specs.Record.{Reading}
use Rattle.sectors.specs.declared.reading.SectorNumber.{SectorNumber}
use Rattle.sectors.specs.declared.reading.SectorNumber.TheVariants.{Zero, One}
use Rattle.sectors.specs.Sector.{active}

abbrev pub record_text : Record → List ℕ
record_text r = codes "seq " ++ decimal r.sequence.0 ++ codes " state " ++ name_of r.state

-- a record that is not good prints why; none is left for a sector of a wrong size, which 8,192 bytes do not have
abbrev pub reading_text : Reading → List ℕ
reading_text (Ok r) = record_text r
reading_text (Err WrongSize) = codes "none"
reading_text (Err fault) = fault_name_of fault

abbrev pub digit_of : SectorNumber → List ℕ
digit_of Zero = codes "0"
digit_of One = codes "1"

unfoldable pub sector_line : SectorNumber → Reading → List ℕ
sector_line number reading = codes "sector " ++ digit_of number ++ codes " " ++ reading_text reading ++ codes "\n"

-- a missing active prints none
abbrev pub active_line : Option SectorNumber → List ℕ
active_line None = codes "active none\n"
active_line (Some number) = codes "active " ++ digit_of number ++ codes "\n"

-- the report on the readings of both sectors; a reading that is missing counts as one of a wrong size
unfoldable pub report_of : List Reading → List ℕ
report_of readings =
    codes "otadata report\n"
    ++ sector_line Zero (slice_index_or readings 0 (Err WrongSize))
    ++ sector_line One (slice_index_or readings 1 (Err WrongSize))
    ++ active_line (active readings)
