-- Answers in numbers: the number of a refusal, or 0, and the values that are given.
use Rattle.std.specs.Prelude.{ℕ, codes, List, [], ◌∷◌, Option, Some, None, Result, Ok, Err}
use Rattle.std.specs.Option.{option_to_list}
use Rattle.otadata.specs.declared.records.Record.{Record}
use Rattle.otadata.specs.declared.records.NotGood.{NotGood}
use Rattle.otadata.specs.declared.records.Fault.{Fault}
use Rattle.otadata.specs.declared.records.Fault.TheVariants.{WrongSize, Blank, BadSequence, BadCheckWord, BadState}
use Rattle.otadata.specs.State.{word_of}

pub record Answer : Type 0 where
  pub number : ℕ
  pub values : List ℕ

-- bytes of another size than a record's are refused with 2
abbrev pub number_of : Fault → ℕ
number_of WrongSize = 2
number_of Blank = 0
number_of BadSequence = 0
number_of BadCheckWord = 0
number_of BadState = 0

-- the value of each way to hold no good record; that of a good record is 1
abbrev pub code_of : Fault → Option ℕ
code_of WrongSize = None
code_of Blank = Some 2
code_of BadSequence = Some 3
code_of BadCheckWord = Some 4
code_of BadState = Some 5

-- the number and the values of what was read: of a good record 1, its sequence and its state's word
abbrev pub answer_of : Result Record Fault → Answer
answer_of (Ok r) = record { number = 0; values = 1 ∷ r.sequence.0 ∷ word_of r.state ∷ [] }
answer_of (Err fault) = record { number = number_of fault; values = option_to_list (code_of fault) }

-- fields that make no good record are refused with 17
abbrev pub number_of_not_good : NotGood → ℕ
number_of_not_good refusal = 17

abbrev pub text_of_not_good : NotGood → List ℕ
text_of_not_good refusal = codes "the fields make no good record"

-- the name that is printed
abbrev pub name_of : Fault → List ℕ
name_of WrongSize = codes "wrong size"
name_of Blank = codes "blank"
name_of BadSequence = codes "bad sequence"
name_of BadCheckWord = codes "bad check"
name_of BadState = codes "bad state"
