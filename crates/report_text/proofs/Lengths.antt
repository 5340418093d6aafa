-- How long a report and its parts can be.
use Rattle.std.proofs.Common.{◌≡◌, ℕ, zero, suc, ◌+◌, ◌/◌, ◌%◌, ◌≤◌, ◌==◌, Bool, true, false, List, [], ◌∷◌, length, Option, Some, None, Ok, Err, slice_index_or, if◌then◌else◌, arith}
use Rattle.std.specs.Fmt.{decimal, digits, digits_onto, digit_glyph}
use Rattle.std.proofs.lemmas.List.{length-append}
use Rattle.otadata.specs.declared.records.Fault.TheVariants.{WrongSize, Blank, BadSequence, BadCheckWord, BadState}
use Rattle.otadata.specs.Record.{Reading}
use Rattle.sectors.specs.declared.reading.SectorNumber.{SectorNumber}
use Rattle.sectors.specs.declared.reading.SectorNumber.TheVariants.{Zero, One}
use Rattle.sectors.specs.Sector.{active}
use Rattle.report_text.specs.Report.{reading_text, digit_of, sector_line, active_line, report_of}
use Rattle.report_text.specs.ReportLength.{ReportLength}
use Rattle.report_text.proofs.Sizes.{state_name}

either_length : (t : Bool) (xs ys : List ℕ) (n : ℕ) → length xs ≤ n → length ys ≤ n → length (if t then xs else ys) ≤ n
either_length true xs ys n one other = one
either_length false xs ys n one other = other

digits_length : (k n : ℕ) (more : List ℕ) → length (digits_onto k 10 false n more) ≤ k + length more
digits_length zero n more = omega arith
digits_length (suc k) n more =
    let put = digit_glyph false (n % 10) ∷ more in
    either_length (n / 10 == 0) put (digits_onto k 10 false (n / 10) put) (suc k + length more) (omega arith)
    (omega (arith, digits_length k (n / 10) put))

decimal_length : (n : ℕ) → length (decimal n) ≤ 64
unfolding digits
decimal_length n = omega (arith, digits_length 64 n [])

reading_length : (reading : Reading) → length (reading_text reading) ≤ 84
reading_length (Ok r) = simp length-append (omega (arith, decimal_length r.sequence.0, state_name r.state))
reading_length (Err WrongSize) = omega arith
reading_length (Err Blank) = omega arith
reading_length (Err BadSequence) = omega arith
reading_length (Err BadCheckWord) = omega arith
reading_length (Err BadState) = omega arith

digit_length : (number : SectorNumber) → length (digit_of number) ≡ 1
digit_length Zero = omega arith
digit_length One = omega arith

line_length : (number : SectorNumber) (reading : Reading) → length (sector_line number reading) ≤ 94
unfolding sector_line
line_length number reading = simp length-append (omega (arith, digit_length number, reading_length reading))

active_length : (number : Option SectorNumber) → length (active_line number) ≤ 12
active_length None = omega arith
active_length (Some number) = simp length-append (omega (arith, digit_length number))

pub report_length : ReportLength
unfolding ReportLength report_of
report_length readings =
    simp length-append (omega (
      arith,
      line_length Zero (slice_index_or readings 0 (Err WrongSize)),
      line_length One (slice_index_or readings 1 (Err WrongSize)),
      active_length (active readings),
    ))
