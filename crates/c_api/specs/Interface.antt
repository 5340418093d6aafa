-- What C gets: an answer as a number and the array `out`; and what the arguments of the calls on a node stand for.
use Rattle.std.specs.Prelude.{ℕ, ◌-◌, Bool, not, ◌==◌, List, ◌++◌, length, replicate, drop, Result, Ok, Err, if◌then◌else◌}
use Rattle.otadata.specs.declared.TheConstants.{RECORD_SIZE}
use Rattle.otadata.specs.declared.records.NotGood.{NotGood}
use Rattle.otadata.specs.Answer.{Answer, number_of_not_good}
use Rattle.otadata.specs.declared.records.Slot.{Slot}
use Rattle.efuse.specs.declared.ChipId.{ChipId}
use Rattle.partitions.specs.declared.list.App.{App}
use Rattle.partitions.specs.declared.list.App.TheVariants.{Factory, OtaSlot}
use Rattle.app_image.specs.Example.{board_of}
use Rattle.node.specs.declared.Settings.{Settings}

-- ---- an answer

-- the number that a call returns, and what it leaves in `out`
abbrev pub answer : ℕ → List ℕ → Answer
answer number values = record { number = number; values = values }

-- an answer with an `out` of k numbers: its values, zero after them
abbrev pub to_c : ℕ → Answer → Answer
to_c k a = answer a.number (a.values ++ replicate (k - length a.values) 0)

-- a record as made: 0 and its bytes, or 17 and zero bytes
abbrev pub made_answer : Result (List ℕ) NotGood → Answer
made_answer (Ok bytes) = answer 0 bytes
made_answer (Err refusal) = answer (number_of_not_good refusal) (replicate RECORD_SIZE 0)

-- the active record: 32 and its bytes; where there is none, 0, and what was there before
abbrev pub active_answer : List ℕ → List ℕ → Answer
active_answer bytes before = if length bytes == RECORD_SIZE then answer 32 bytes else answer 0 before

-- the chip of an id
abbrev pub chip_of : ℕ → ChipId
chip_of id = record { 0 = id }

-- ---- a node

-- a flag is on where it is not 0
abbrev pub flag : ℕ → Bool
flag f = not (f == 0)

abbrev pub settings_of : ℕ → ℕ → ℕ → ℕ → ℕ → Settings
settings_of chip revision efuse rollback anti =
    record { board = board_of chip revision; efuse = efuse; rollback = flag rollback; anti_rollback = flag anti }

-- the slot of a number
abbrev pub slot_of : ℕ → Slot
slot_of s = record { 0 = s }

-- the running app: 0xFFFFFFFF is factory, any other number a slot
abbrev pub running_app : ℕ → App
running_app r = if r == 0xFFFFFFFF then Factory else OtaSlot (slot_of r)

-- of set-boot: without the register, the first value of its answer
abbrev pub without_register : Answer → Answer
without_register a = answer a.number (drop 1 a.values)
