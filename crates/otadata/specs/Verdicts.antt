-- What each answer says of a record's bytes; that of any bytes exactly one holds, the reader's; and its number and values.
use Rattle.std.specs.Prelude.{ℕ, ◌≡◌, ◌≢◌, IsTrue, IsFalse, not, ◌==◌, if◌then◌else◌, List, [], ◌∷◌, length, replicate, None, Some, is_some, Ok, Err, is_ok}
use Rattle.otadata.specs.declared.TheConstants.{RECORD_SIZE}
use Rattle.otadata.specs.declared.records.Fault.TheVariants.{WrongSize, Blank, BadSequence, BadCheckWord, BadState}
use Rattle.otadata.specs.CheckWord.{check_word}
use Rattle.otadata.specs.State.{state_of}
use Rattle.otadata.specs.Record.{Reading, sequence_field, label_field, state_field, check_field, is_blank, is_sequence, is_good, read}
use Rattle.otadata.specs.Answer.{Answer, answer_of}

-- the answer holds of the bytes. No blank record has a sequence in range, so only a bad sequence must say that the record is not blank
abbrev pub HoldsOf : List ℕ → Reading → Type 0
HoldsOf bytes (Err WrongSize) = length bytes ≢ RECORD_SIZE
HoldsOf bytes (Err Blank) = bytes ≡ replicate RECORD_SIZE 0xFF
HoldsOf bytes (Err BadSequence) =
    (length bytes ≡ RECORD_SIZE) × (bytes ≢ replicate RECORD_SIZE 0xFF) × IsFalse (is_sequence (sequence_field bytes))
HoldsOf bytes (Err BadCheckWord) =
    (length bytes ≡ RECORD_SIZE) × IsTrue (is_sequence (sequence_field bytes)) × (check_field bytes ≢ check_word (sequence_field bytes))
HoldsOf bytes (Err BadState) =
    (length bytes ≡ RECORD_SIZE) × IsTrue (is_sequence (sequence_field bytes)) × (check_field bytes ≡ check_word (sequence_field bytes)) × (state_of (state_field bytes) ≡ None)
HoldsOf bytes (Ok r) =
    IsTrue (is_good bytes) × (r.sequence.0 ≡ sequence_field bytes) × (r.label ≡ label_field bytes) × (state_of (state_field bytes) ≡ Some r.state)

-- the reader's answer holds, and no other does
pub record OneVerdict (bytes : List ℕ) : Type 0 where
  pub holds : HoldsOf bytes (read bytes)
  pub alone : (answer : Reading) → HoldsOf bytes answer → answer ≡ read bytes

unfoldable pub VerdictLaw : Type 0
VerdictLaw = (bytes : List ℕ) → OneVerdict bytes

-- a record is good exactly where the reader gives one
unfoldable pub GoodLaw : Type 0
GoodLaw = (bytes : List ℕ) → is_ok (read bytes) ≡ is_good bytes

-- the number and the values of the answer to the bytes, test by test
unfoldable pub answer_to : List ℕ → Answer
answer_to bytes =
    if not (length bytes == RECORD_SIZE) then record { number = 2; values = [] }
    else (if is_blank bytes then record { number = 0; values = 2 ∷ [] }
    else (if not (is_sequence (sequence_field bytes)) then record { number = 0; values = 3 ∷ [] }
    else (if not (check_field bytes == check_word (sequence_field bytes)) then record { number = 0; values = 4 ∷ [] }
    else (if not (is_some (state_of (state_field bytes))) then record { number = 0; values = 5 ∷ [] }
    else record { number = 0; values = 1 ∷ sequence_field bytes ∷ state_field bytes ∷ [] }))))

-- the reader's answer has that number and those values
unfoldable pub ViewLaw : Type 0
ViewLaw = (bytes : List ℕ) → answer_of (read bytes) ≡ answer_to bytes
