-- How long a report can be.
use Rattle.std.specs.Prelude.{List, ◌≤◌, length}
use Rattle.otadata.specs.Record.{Reading}
use Rattle.report_text.specs.Report.{report_of}

-- of any readings the report fits a text
unfoldable pub ReportLength : Type 0
ReportLength = (readings : List Reading) → length (report_of readings) ≤ 256
