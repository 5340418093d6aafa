-- A worked example of the report.
use Rattle.std.specs.Prelude.{◌≡◌, [], ◌∷◌, codes, replicate}
use Rattle.otadata.specs.Record.{fields, read}
use Rattle.report_text.specs.Report.{report_of}

-- sector 0 with sequence 1, undefined, and sector 1 blank
unfoldable pub Example : Type 0
Example =
    report_of (read (fields 1 (replicate 20 0xFF) 0xFFFFFFFF) ∷ read (replicate 32 0xFF) ∷ [])
    ≡ codes "otadata report\nsector 0 seq 1 state undefined\nsector 1 blank\nactive 0\n"
