-- A record of otadata: its fields, when it is good, and how one is read and made.
use Rattle.std.specs.Prelude.{ℕ, ◌-◌, ◌%◌, Bool, false, not, ◌&&◌, List, ◌++◌, length, slice_range, is_some, Option, Some, None, Result, Ok, Err, ◌==◌, nat_le, if◌then◌else◌}
use Rattle.std.specs.Int.{w32, from_le_bytes, to_le_bytes}
use Rattle.std.specs.List.{list_all}
use Rattle.otadata.specs.declared.TheConstants.{RECORD_SIZE, LAST_SEQUENCE}
use Rattle.otadata.specs.declared.records.Sequence.{Sequence}
use Rattle.otadata.specs.declared.records.Slot.{Slot}
use Rattle.otadata.specs.declared.records.Record.{Record}
use Rattle.otadata.specs.declared.records.NotGood.{NotGood}
use Rattle.otadata.specs.declared.records.Fault.{Fault}
use Rattle.otadata.specs.declared.records.Fault.TheVariants.{WrongSize, Blank, BadSequence, BadCheckWord, BadState}
use Rattle.otadata.specs.declared.states.State.{State}
use Rattle.otadata.specs.CheckWord.{check_word}
use Rattle.otadata.specs.State.{word_of, is_usable, state_of}

-- ---- the fields of a record of 32 bytes: sequence at 0, label at 4, state at 24, check word at 28

abbrev pub sequence_field : List ℕ → ℕ
sequence_field bytes = from_le_bytes w32 (slice_range bytes 0 4)

abbrev pub label_field : List ℕ → List ℕ
label_field bytes = slice_range bytes 4 24

abbrev pub state_field : List ℕ → ℕ
state_field bytes = from_le_bytes w32 (slice_range bytes 24 28)

abbrev pub check_field : List ℕ → ℕ
check_field bytes = from_le_bytes w32 (slice_range bytes 28 32)

-- ---- reading

-- the sequence of a good record
abbrev pub is_sequence : ℕ → Bool
is_sequence sequence = nat_le 1 sequence && nat_le sequence LAST_SEQUENCE

-- good: such a sequence, its check word, and one of the six states
unfoldable pub is_good : List ℕ → Bool
is_good bytes =
    (length bytes == RECORD_SIZE)
    && is_sequence (sequence_field bytes)
    && (check_field bytes == check_word (sequence_field bytes))
    && is_some (state_of (state_field bytes))

-- blank, of a whole record: every byte is 0xFF
abbrev pub is_blank : List ℕ → Bool
is_blank bytes = list_all (λ byte. byte == 0xFF) bytes

-- what bytes read as: a good record, or why there is none
abbrev pub Reading : Type 0
Reading = Result Record Fault

-- the record of a good sequence and its check word, if the state is one of the six
abbrev pub with_state : List ℕ → Option State → Reading
with_state bytes None = Err BadState
with_state bytes (Some state) =
    Ok (record { sequence = record { 0 = sequence_field bytes }; label = label_field bytes; state = state })

-- the good record in the bytes, or the first fault that applies
unfoldable pub read : List ℕ → Reading
read bytes =
    if not (length bytes == RECORD_SIZE) then Err WrongSize
    else (if is_blank bytes then Err Blank
    else (if not (is_sequence (sequence_field bytes)) then Err BadSequence
    else (if not (check_field bytes == check_word (sequence_field bytes)) then Err BadCheckWord
    else with_state bytes (state_of (state_field bytes)))))

-- ---- what only a good record has

-- usable: good, and neither invalid nor aborted
abbrev pub usable : Reading → Bool
usable (Ok r) = is_usable r.state
usable (Err fault) = false

-- good, and in that state
abbrev pub in_state : State → Reading → Bool
in_state state (Ok r) = word_of r.state == word_of state
in_state state (Err fault) = false

-- the sequence of a good record
abbrev pub sequence_of : Reading → Option Sequence
sequence_of (Ok r) = Some r.sequence
sequence_of (Err fault) = None

-- names slot: with n slots, a good record names slot (sequence - 1) mod n; of no slots, 0
abbrev pub slot_of : ℕ → Sequence → Slot
slot_of n sequence = record { 0 = if n == 0 then 0 else (sequence.0 - 1) % n }

-- ---- making

-- the 32 bytes of the fields, with the check word of the sequence
unfoldable pub fields : ℕ → List ℕ → ℕ → List ℕ
fields sequence label word =
    to_le_bytes w32 sequence ++ label ++ to_le_bytes w32 word ++ to_le_bytes w32 (check_word sequence)

abbrev pub bytes_of : Record → List ℕ
bytes_of r = fields r.sequence.0 r.label (word_of r.state)

-- the bytes of the fields, where they are good
unfoldable pub made : Sequence → List ℕ → ℕ → Result (List ℕ) NotGood
made sequence label word =
    let bytes = fields sequence.0 label word in
    if is_good bytes then Ok bytes else Err (record {})
