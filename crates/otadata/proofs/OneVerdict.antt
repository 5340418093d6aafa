-- Of any bytes exactly one answer holds, the reader's; a record is good exactly where the reader gives one; and the answer's number and values.
use Rattle.std.proofs.Common.{◌≡◌, ◌≢◌, ℕ, zero, suc, ◌==◌, Bool, true, false, not, ◌&&◌, if◌then◌else◌, List, [], ◌∷◌, length, is_ok, is_some, Ok, Err, Some, None, Option, refl, sym, ap, ◌∙◌, arith, eqb-true}
use Rattle.std.specs.Prelude.{replicate}
use Rattle.std.proofs.lemmas.Bool.Decides.{nat_tests}
use Rattle.otadata.specs.declared.records.Record.{Record}
use Rattle.otadata.specs.declared.records.Fault.{Fault}
use Rattle.otadata.specs.declared.records.Fault.TheVariants.{WrongSize, Blank, BadSequence, BadCheckWord, BadState}
use Rattle.otadata.specs.declared.states.State.{State}
use Rattle.otadata.specs.CheckWord.{check_word}
use Rattle.otadata.specs.State.{state_of}
use Rattle.otadata.specs.Record.{Reading, read, is_good, is_blank, is_sequence, sequence_field, check_field, state_field, with_state}
use Rattle.otadata.specs.Answer.{answer_of}
use Rattle.otadata.specs.Verdicts.{HoldsOf, VerdictLaw, GoodLaw, answer_to, ViewLaw}
use Rattle.otadata.proofs.RoundTrip.{not_blank, read-good, passed, with_state-ok, word_of-state_of}

-- ---- blank bytes

all_erased : (n : ℕ) (bytes : List ℕ) → length bytes ≡ n → is_blank bytes ≡ true → bytes ≡ replicate n 0xFF
all_erased zero [] size blank = refl
all_erased zero (byte ∷ bytes) size blank = absurd (omega (arith, size))
all_erased (suc n) [] size blank = absurd (omega (arith, size))
all_erased (suc n) (byte ∷ bytes) size blank =
    let first : byte ≡ 0xFF = grind (arith, nat_tests) in
    let rest : bytes ≡ replicate n 0xFF = all_erased n bytes (omega (arith, size)) (grind (arith, nat_tests)) in
    rw (first, rest) refl

written : (bytes : List ℕ) → length bytes ≡ 32 → bytes ≢ replicate 32 0xFF → is_blank bytes ≡ false
written bytes size other = grind (arith, nat_tests, all_erased 32 bytes size)

erased-read : read (replicate 32 0xFF) ≡ Err Blank
unfolding read
erased-read = refl

-- ---- no other answer holds

alone : (bytes : List ℕ) (answer : Reading) → HoldsOf bytes answer → answer ≡ read bytes
unfolding read is_good
alone bytes (Err WrongSize) holds = grind (arith, nat_tests)
alone bytes (Err Blank) holds = sym (ap read holds ∙ erased-read)
alone bytes (Err BadSequence) (size, other, out) = let blank = written bytes size other in grind (arith, nat_tests)
alone bytes (Err BadCheckWord) holds = grind (arith, nat_tests, not_blank bytes)
alone bytes (Err BadState) holds = grind (arith, nat_tests, not_blank bytes)
alone bytes (Ok r) holds = grind (arith, nat_tests, read-good bytes r.state)

-- ---- the reader's answer holds

with_state-err : (bytes : List ℕ) (state : Option State) → with_state bytes state ≡ Err BadState → state ≡ None
with_state-err bytes None is = refl
with_state-err bytes (Some state) is = cc

last_test : (size blank sequence check : Bool) (rest : Reading)
    → (if not size then Err WrongSize else (if blank then Err Blank else (if not sequence then Err BadSequence else (if not check then Err BadCheckWord else rest)))) ≡ Err BadState
    → rest ≡ Err BadState
last_test size blank sequence check rest is = grind (arith, nat_tests)

reached : (bytes : List ℕ) → read bytes ≡ Err BadState → with_state bytes (state_of (state_field bytes)) ≡ Err BadState
unfolding read
reached bytes is =
    last_test (length bytes == 32) (is_blank bytes) (is_sequence (sequence_field bytes)) (check_field bytes == check_word (sequence_field bytes)) (with_state bytes (state_of (state_field bytes))) is

holds_of : (bytes : List ℕ) (answer : Reading) → read bytes ≡ answer → HoldsOf bytes answer
unfolding read is_good
holds_of bytes (Err WrongSize) is = λ size. grind (arith, nat_tests)
holds_of bytes (Err Blank) is = all_erased 32 bytes (grind (arith, nat_tests)) (grind (arith, nat_tests))
holds_of bytes (Err BadSequence) is =
    (grind (arith, nat_tests), (λ erased. let other = ap read erased ∙ erased-read in cc), grind (arith, nat_tests))
holds_of bytes (Err BadCheckWord) is = (grind (arith, nat_tests), grind (arith, nat_tests), λ check. grind (arith, nat_tests))
holds_of bytes (Err BadState) is =
    (grind (arith, nat_tests), grind (arith, nat_tests), grind (arith, nat_tests), with_state-err bytes (state_of (state_field bytes)) (reached bytes is))
holds_of bytes (Ok r) is =
    let tests = passed bytes r is in
    let found = with_state-ok bytes (state_of (state_field bytes)) r tests.3 in
    (simp (tests.0, tests.1, tests.2, found.0), found.1, found.2, found.0)

pub verdict_law : VerdictLaw
unfolding VerdictLaw
verdict_law bytes = record { holds = holds_of bytes (read bytes) refl; alone = alone bytes }

-- ---- good exactly where a record is read

with_state-is_ok : (bytes : List ℕ) (state : Option State) → is_ok (with_state bytes state) ≡ is_some state
with_state-is_ok bytes None = refl
with_state-is_ok bytes (Some state) = refl

four_tests : (size blank sequence check state : Bool) (rest : Reading)
    → (size ≡ true → sequence ≡ true → blank ≡ false) → is_ok rest ≡ state
    → is_ok {T = Record} {E = Fault} (if not size then Err WrongSize else (if blank then Err Blank else (if not sequence then Err BadSequence else (if not check then Err BadCheckWord else rest))))
    ≡ (size && sequence && check && state)
four_tests true false true true state rest apart same = same
four_tests true false true false state rest apart same = refl
four_tests true false false check state rest apart same = refl
four_tests true true true check state rest apart same = let never = apart refl refl in cc
four_tests true true false check state rest apart same = refl
four_tests false blank sequence check state rest apart same = refl

pub good_law : GoodLaw
unfolding GoodLaw read is_good
good_law bytes =
    four_tests (length bytes == 32) (is_blank bytes) (is_sequence (sequence_field bytes)) (check_field bytes == check_word (sequence_field bytes))
    (is_some (state_of (state_field bytes))) (with_state bytes (state_of (state_field bytes)))
    (λ size. not_blank bytes (eqb-true _ 32 size))
    (with_state-is_ok bytes (state_of (state_field bytes)))

-- ---- the number and the values of the answer

by_tests : (bytes : List ℕ) (size blank sequence check : Bool) (state : Option State)
    → (length bytes == 32) ≡ size → is_blank bytes ≡ blank → is_sequence (sequence_field bytes) ≡ sequence
    → (check_field bytes == check_word (sequence_field bytes)) ≡ check → state_of (state_field bytes) ≡ state
    → answer_of (read bytes) ≡ answer_to bytes
unfolding read answer_to
by_tests bytes false blank sequence check state of_size of_blank of_sequence of_check of_state = simp of_size
by_tests bytes true true sequence check state of_size of_blank of_sequence of_check of_state = simp (of_size, of_blank)
by_tests bytes true false false check state of_size of_blank of_sequence of_check of_state = simp (of_size, of_blank, of_sequence)
by_tests bytes true false true false state of_size of_blank of_sequence of_check of_state = simp (of_size, of_blank, of_sequence, of_check)
by_tests bytes true false true true None of_size of_blank of_sequence of_check of_state = simp (of_size, of_blank, of_sequence, of_check, of_state)
by_tests bytes true false true true (Some state) of_size of_blank of_sequence of_check of_state = simp (of_size, of_blank, of_sequence, of_check, of_state, word_of-state_of (state_field bytes) state of_state)

pub view_law : ViewLaw
unfolding ViewLaw
view_law bytes =
    by_tests bytes (length bytes == 32) (is_blank bytes) (is_sequence (sequence_field bytes)) (check_field bytes == check_word (sequence_field bytes))
    (state_of (state_field bytes)) refl refl refl refl refl

-- ---- every reading is a good record, or there is none

-- no record makes it a good one
abbrev pub NoRecord : Reading → Type 0
NoRecord reading = (r : Record) → reading ≢ Ok r

-- what holds of those and of a good one holds of every reading
pub by_verdict : (P : Reading → Type 0) → ((reading : Reading) → NoRecord reading → P reading) → ((r : Record) → P (Ok r)) → (reading : Reading) → P reading
by_verdict P other good (Err fault) = other (Err fault) (λ r is. cc)
by_verdict P other good (Ok r) = good r

-- what is true of a good record alone
abbrev pub if_good : (Record → Bool) → Reading → Bool
if_good so (Ok r) = so r
if_good so (Err fault) = false

-- tells that the record is good
pub record GoodSo (so : Record → Bool) (reading : Reading) : Type 0 where
  pub found : Record
  pub is : reading ≡ Ok found
  pub holds : so found ≡ true

pub good_so : (so : Record → Bool) (reading : Reading) → if_good so reading ≡ true → GoodSo so reading
good_so so (Ok r) holds = record { found = r; is = refl; holds = holds }
good_so so (Err fault) holds = cc
