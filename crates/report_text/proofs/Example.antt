-- The worked example, by evaluation.
use Rattle.std.proofs.Common.{refl}
use Rattle.std.specs.Fmt.{digits}
use Rattle.otadata.specs.CheckWord.{step, steps, after_byte, check_word}
use Rattle.otadata.specs.Record.{fields, read}
use Rattle.report_text.specs.Report.{sector_line, report_of}
use Rattle.report_text.specs.Example.{Example}

pub example : Example
unfolding Example report_of sector_line digits read fields check_word after_byte steps step
example = refl
