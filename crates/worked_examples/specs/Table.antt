-- The worked examples that are proved, as one table; and what it means that an example holds.
use Rattle.std.specs.Prelude.{ℕ, ◌/◌, ◌%◌, ◌≡◌, ◌≢◌, true, List, [], ◌∷◌, ◌++◌, length, slice_index, set as set_at, replicate, Option, Some, None, Result, Ok, Err}
use Rattle.otadata.specs.declared.records.NotGood.{NotGood}
use Rattle.otadata.specs.declared.records.Sequence.{Sequence}
use Rattle.otadata.specs.declared.records.Slot.{Slot}
use Rattle.otadata.specs.declared.states.State.{State}
use Rattle.otadata.specs.declared.states.State.TheVariants.{Pending, Valid, Aborted, Undefined}
use Rattle.otadata.specs.Answer.{Answer, number_of_not_good}
use Rattle.otadata.specs.State.{word_of}
use Rattle.otadata.specs.Record.{Reading, made}
use Rattle.sectors.specs.declared.reading.SectorNumber.{SectorNumber}
use Rattle.sectors.specs.Sector.{number_of_sector, other_than, read_sector, active}
use Rattle.sectors.specs.Otadata.{readings_of}
use Rattle.efuse.specs.declared.ChipId.{ChipId}
use Rattle.efuse.specs.Register.{width, version, raised}
use Rattle.partitions.specs.declared.list.App.TheVariants.{OtaSlot}
use Rattle.app_image.specs.declared.Facts.{Facts}
use Rattle.app_image.specs.declared.refusal.ImageRefusal.{ImageRefusal}
use Rattle.app_image.specs.Refusal.{number_of, place_of, answer_of as answer_of_check}
use Rattle.app_image.specs.Layout.{◌>>=◌, ending_of, checksum_place, whole_length}
use Rattle.app_image.specs.Check.{check}
use Rattle.app_image.specs.Example.{board_of, one_segment}
use Rattle.node.specs.declared.Settings.{Settings}
use Rattle.node.specs.declared.Node.{Node}
use Rattle.node.specs.Node.{otadata_size, node_of, passing}
use Rattle.boot_choice.specs.Choice.{slots_of}
use Rattle.boot.specs.Boot.{boot_reply}
use Rattle.boot.specs.Answer.{answer_of as answer_of_boot}
use Rattle.boot_laws.specs.Laws.{sector}
use Rattle.update.specs.SetBoot.{new_state, set_boot_reply, set_boot_bytes}
use Rattle.update.specs.Answer.{answer_of as answer_of_set}
use Rattle.worked_examples.specs.Digested.{digested, flipped}

-- ---- an answer without a refusal

abbrev pub gives : List ℕ → Answer
gives values = record { number = 0; values = values }

-- ---- chips

abbrev pub esp32 : ChipId
esp32 = record { 0 = 0 }

abbrev pub esp32h2 : ChipId
esp32h2 = record { 0 = 16 }

-- ---- nodes and otadata

abbrev pub slot : ℕ → Slot
slot s = record { 0 = s }

-- what a sector holds, its label aside: a good record's sequence and state, or nothing
abbrev pub Held : Type 0
Held = Option (Sequence × State)

abbrev pub held : Reading → Held
held (Ok r) = Some (r.sequence, r.state)
held (Err fault) = None

abbrev pub held_in : List ℕ → Held
held_in sector = held (read_sector sector)

-- a good record of that sequence, in that state
abbrev pub good : ℕ → State → Held
good q state = Some (record { 0 = q }, state)

-- boot accepts the node; it has n slots, and slot s passes, with these facts of its image
pub record Accepts (words flash : List ℕ) (settings : Settings) (n s : ℕ) (facts : Facts) : Type 0 where
  pub node : Node
  pub accepted : node_of words flash otadata_size settings ≡ Ok node
  pub slots : slots_of node ≡ n
  pub passes : passing node (OtaSlot (slot s)) ≡ Some facts

-- the active record of otadata is in sector k and has sequence q; with rollback on it isn't pending
pub record ActiveIs (settings : Settings) (otadata : List ℕ) (k : SectorNumber) (q : ℕ) : Type 0 where
  pub size : length otadata ≡ otadata_size
  pub state : State
  pub is_active : active (readings_of otadata) ≡ Some k
  pub holds : held_in (sector k otadata) ≡ good q state
  pub not_pending : settings.rollback ≡ true → state ≢ Pending

-- sector k of otadata holds the one record, the other sector the other
pub record Reads (otadata : List ℕ) (k : SectorNumber) (one other : Held) : Type 0 where
  pub size : length otadata ≡ otadata_size
  pub own : held_in (sector k otadata) ≡ one
  pub beside : held_in (sector (other_than k) otadata) ≡ other

-- ---- examples

pub data Example : Type 0 where
  -- what a definition gives, and what the rules say
  value : (given said : Answer) → Example
  -- n slots, active q, set slot s: sequence `new`
  set : (n q s new : ℕ) → Example
  -- n slots, active q, set slot s: refused with the number
  set_refused : (n q s number : ℕ) → Example
  -- n slots, these two records, and slot s passes: slot s through the first of them
  boots : (n : ℕ) (first second : Held) (s : ℕ) → Example

-- set-boot replies 0 with the register as given, and the length and the entry address of the slot's image; the sector that was not active
-- reads as a new record of that sequence; the active one keeps its bytes
pub record Sets (words flash otadata : List ℕ) (settings : Settings) (s : ℕ) (facts : Facts) (k : SectorNumber) (new : ℕ) : Type 0 where
  pub answer : answer_of_set settings (set_boot_reply words flash otadata settings (slot s)) ≡ gives (settings.efuse ∷ 0 ∷ 0 ∷ facts.length ∷ facts.entry ∷ [])
  pub reads : read_sector (sector (other_than k) (set_boot_bytes words flash otadata settings (slot s)))
      ≡ Ok (record { sequence = record { 0 = new }; label = replicate 20 255; state = new_state settings })
  pub active_stays : sector k (set_boot_bytes words flash otadata settings (slot s)) ≡ sector k otadata

-- it replies that number with the register as given, zero for length and entry, and changes nothing
pub record Refuses (words flash otadata : List ℕ) (settings : Settings) (s number : ℕ) : Type 0 where
  pub answer : answer_of_set settings (set_boot_reply words flash otadata settings (slot s))
      ≡ record { number = number; values = settings.efuse ∷ 0 ∷ 0 ∷ 0 ∷ 0 ∷ [] }
  pub unchanged : set_boot_bytes words flash otadata settings (slot s) ≡ otadata

-- an example of a call holds on every node and every otadata as it says
abbrev pub Holds : Example → Type 0
Holds (value given said) = given ≡ said
Holds (set n q s new) =
    (words flash otadata : List ℕ) (settings : Settings) (k : SectorNumber) (facts : Facts)
    → Accepts words flash settings n s facts → ActiveIs settings otadata k q
    → Sets words flash otadata settings s facts k new
Holds (set_refused n q s number) =
    (words flash otadata : List ℕ) (settings : Settings) (k : SectorNumber) (facts : Facts)
    → Accepts words flash settings n s facts → ActiveIs settings otadata k q
    → Refuses words flash otadata settings s number
Holds (boots n first second s) =
    (words flash otadata : List ℕ) (settings : Settings) (k : SectorNumber) (facts : Facts)
    → Accepts words flash settings n s facts → Reads otadata k first second
    → answer_of_boot settings (boot_reply words flash otadata settings)
    ≡ gives (2 ∷ s ∷ number_of_sector k ∷ settings.efuse ∷ facts.length ∷ facts.entry ∷ [])

abbrev pub AllHold : List Example → Type 0
AllHold [] = Unit
AllHold (e ∷ es) = Holds e × AllHold es

-- ---- the values

-- a record that is made: its 32 bytes
abbrev pub answer_of_made : Result (List ℕ) NotGood → Answer
answer_of_made (Ok bytes) = gives bytes
answer_of_made (Err refusal) = record { number = number_of_not_good refusal; values = [] }

-- sequence 1, undefined
abbrev pub first_record : Answer
first_record = answer_of_made (made (record { 0 = 1 }) (replicate 20 255) (word_of Undefined))

-- of the image of one 256-byte segment, with a digest flag: its checksum, where that stands, the byte there, and the whole length
abbrev pub layout_of : ℕ → List ℕ → Result (List ℕ) ImageRefusal
layout_of flag image = do
  ending ← ending_of image
  Ok (ending.checksum ∷ checksum_place ending.end ∷ slice_index image (checksum_place ending.end) ∷ whole_length flag ending.end ∷ [])

abbrev pub answer_of_layout : Result (List ℕ) ImageRefusal → Answer
answer_of_layout (Ok values) = gives values
answer_of_layout (Err refusal) = record { number = number_of refusal; values = place_of refusal ∷ [] }

abbrev pub layout : ℕ → Answer
layout flag = answer_of_layout (layout_of flag (one_segment flag))

-- the image of one segment for the ESP32-H2, with a secure version and the checksum that goes with it
abbrev pub for_h2 : ℕ → ℕ → List ℕ
for_h2 v sum = set_at (set_at (set_at (one_segment 0) 12 esp32h2.0) 36 v) 303 sum

-- the image of one segment, with a minimum and a maximum revision
abbrev pub for_revisions : ℕ → ℕ → List ℕ
for_revisions least most = set_at (set_at (set_at (set_at (one_segment 0) 15 (least % 256)) 16 (least / 256)) 17 (most % 256)) 18 (most / 256)

-- its check on the ESP32 in revision 301
abbrev pub on301 : ℕ → ℕ → Answer
on301 least most = answer_of_check (check (for_revisions least most) (board_of esp32.0 301))

-- the check of an image on the ESP32
abbrev pub on_esp32 : List ℕ → Answer
on_esp32 image = answer_of_check (check image (board_of esp32.0 0))

-- on the ESP32-H2
abbrev pub on_esp32h2 : List ℕ → Answer
on_esp32h2 image = answer_of_check (check image (board_of esp32h2.0 0))

-- ---- the table

abbrev pub table : List Example
table =
    -- sequence 1, undefined, is 01 00 00 00, 24 bytes FF, 9A 98 43 47
    value first_record (gives (1 ∷ 0 ∷ 0 ∷ 0 ∷ replicate 24 255 ++ 0x9A ∷ 0x98 ∷ 0x43 ∷ 0x47 ∷ []))
    -- n = 2, active 5, set slot 1: 6
    ∷ set 2 5 1 6
    -- n = 3, active 4, set slot 2: 6
    ∷ set 3 4 2 6
    -- n = 2, active 4,294,967,293, set slot 1: 4,294,967,294
    ∷ set 2 4294967293 1 4294967294
    -- active 4,294,967,294, set slot 0: refused 7
    ∷ set_refused 2 4294967294 0 7
    -- sequences 4 valid and 5 aborted, n = 2, slot 1 passes: slot 1 through sequence 4
    ∷ boots 2 (good 4 Valid) (good 5 Aborted) 1
    -- register 0x0B raised to 3: 0x0B; to 4: 0x0F; to 5: 0x1F
    ∷ value (gives (raised (width esp32) 0x0B 3 ∷ raised (width esp32) 0x0B 4 ∷ raised (width esp32) 0x0B 5 ∷ [])) (gives (0x0B ∷ 0x0F ∷ 0x1F ∷ []))
    -- one 256-byte segment: checksum 0xEE at 303, length 304; flag 1: 336
    ∷ value (layout 0) (gives (0xEE ∷ 303 ∷ 0xEE ∷ 304 ∷ []))
    ∷ value (layout 1) (gives (0xEE ∷ 303 ∷ 0xEE ∷ 336 ∷ []))
    -- e = 0x89B7C: checksum at 0x89B7F, length with digest 564,128
    ∷ value (gives (checksum_place 0x89B7C ∷ whole_length 1 0x89B7C ∷ [])) (gives (0x89B7F ∷ 564128 ∷ []))
    -- two flipped bits that cancel in the checksum pass without a digest; with it the image is refused with 30
    ∷ value (on_esp32 (flipped (one_segment 0))) (gives (304 ∷ 0 ∷ 1 ∷ 1 ∷ []))
    ∷ value (on_esp32 digested) (gives (336 ∷ 0 ∷ 1 ∷ 1 ∷ []))
    ∷ value (on_esp32 (flipped digested)) (record { number = 30; values = 304 ∷ [] })
    -- on the ESP32-H2: version 16 is accepted, version 17 refused with 29
    ∷ value (on_esp32h2 (for_h2 16 0xFF)) (gives (304 ∷ 0 ∷ 16 ∷ 1 ∷ []))
    ∷ value (on_esp32h2 (for_h2 17 0xFE)) (record { number = 29; values = 36 ∷ [] })
    -- 0x0000FFFF raised to 17: unchanged; 0xFFFF0000 holds version 0, and raised to 1 it is 0xFFFF0001
    ∷ value (gives (raised (width esp32h2) 0x0000FFFF 17 ∷ [])) (gives (0x0000FFFF ∷ []))
    ∷ value (gives (version (width esp32h2) 0xFFFF0000 ∷ raised (width esp32h2) 0xFFFF0000 1 ∷ [])) (gives (0 ∷ 0xFFFF0001 ∷ []))
    -- in revision 301: minimum and maximum of 301; a minimum above; a maximum below, which 0 and 65,535 are not
    ∷ value (on301 301 301) (gives (304 ∷ 0 ∷ 1 ∷ 1 ∷ []))
    ∷ value (on301 302 0) (record { number = 31; values = 15 ∷ [] })
    ∷ value (on301 0 300) (record { number = 31; values = 15 ∷ [] })
    ∷ value (on301 0 0) (gives (304 ∷ 0 ∷ 1 ∷ 1 ∷ []))
    ∷ value (on301 0 65535) (gives (304 ∷ 0 ∷ 1 ∷ 1 ∷ []))
    ∷ []

-- the claim
unfoldable pub WorkedExamples : Type 0
WorkedExamples = AllHold table
