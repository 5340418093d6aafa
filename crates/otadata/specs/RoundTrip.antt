-- The round trip of a record, both ways.
use Rattle.std.specs.Prelude.{ℕ, ◌^◌, ◌<◌, ◌≡◌, List, length, All, Ok}
use Rattle.otadata.specs.declared.records.Sequence.{Sequence}
use Rattle.otadata.specs.declared.records.Record.{Record}
use Rattle.otadata.specs.declared.states.State.{State}
use Rattle.otadata.specs.State.{word_of}
use Rattle.otadata.specs.Record.{Reading, read, made}

-- the fields that were made are read: the sequence, the label, and the state whose word was given
pub record SameFields (sequence : Sequence) (label : List ℕ) (word : ℕ) (reading : Reading) : Type 0 where
  pub state : State
  pub of_word : word_of state ≡ word
  pub same : reading ≡ Ok (record { sequence = sequence; label = label; state = state })

-- a record made is read back as the same record
unfoldable pub MadeThenRead : Type 0
MadeThenRead =
    (sequence : Sequence) (label : List ℕ) (word : ℕ) (bytes : List ℕ)
    → sequence.0 < 2 ^ 32 → length label ≡ 20 → word < 2 ^ 32 → made sequence label word ≡ Ok bytes
    → SameFields sequence label word (read bytes)

-- a good record, read and made again, is the same 32 bytes
unfoldable pub ReadThenMade : Type 0
ReadThenMade =
    (bytes : List ℕ) (r : Record)
    → All (λ byte. byte < 256) bytes → read bytes ≡ Ok r
    → made r.sequence r.label (word_of r.state) ≡ Ok bytes
