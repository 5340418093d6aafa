-- The states of a record.
use Rattle.std.specs.Prelude.{ℕ, List, ◌++◌, codes, Bool, true, false, Option, Some, None, ◌==◌, if◌then◌else◌}
use Rattle.std.specs.Fmt.{decimal}
use Rattle.otadata.specs.declared.states.NoState.{NoState}
use Rattle.otadata.specs.declared.states.State.{State}
use Rattle.otadata.specs.declared.states.State.TheVariants.{New, Pending, Valid, Invalid, Aborted, Undefined}

-- the word that stands for a state in a record
abbrev pub word_of : State → ℕ
word_of New = 0
word_of Pending = 1
word_of Valid = 2
word_of Invalid = 3
word_of Aborted = 4
word_of Undefined = 0xFFFFFFFF

-- the state that a word stands for, if it is one of the six words
abbrev pub state_of : ℕ → Option State
state_of word =
    if word == 0 then Some New
    else (if word == 1 then Some Pending
    else (if word == 2 then Some Valid
    else (if word == 3 then Some Invalid
    else (if word == 4 then Some Aborted
    else (if word == 0xFFFFFFFF then Some Undefined
    else None)))))

-- a record in this state may be started
abbrev pub is_usable : State → Bool
is_usable Invalid = false
is_usable Aborted = false
is_usable _ = true

-- the name that is printed
abbrev pub name_of : State → List ℕ
name_of New = codes "new"
name_of Pending = codes "pending"
name_of Valid = codes "valid"
name_of Invalid = codes "invalid"
name_of Aborted = codes "aborted"
name_of Undefined = codes "undefined"

abbrev pub text_of_no_state : NoState → List ℕ
text_of_no_state none = codes "no state has the word " ++ decimal none.0
