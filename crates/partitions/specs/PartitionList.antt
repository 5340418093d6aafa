-- The partition list: the rules that it keeps, and the part of the flash that belongs to an app.
use Rattle.std.specs.Prelude.{ℕ, ◌/◌, ◌%◌, Bool, true, not, ◌&&◌, ◌==◌, nat_le, List, [], ◌∷◌, length, map, count_by, find, Option, Some, None, option_map, Result, Ok, Err, if◌then◌else◌}
use Rattle.std.specs.List.{list_all, list_any, range_with_len}
use Rattle.std.specs.Simd.{first_chunks}
use Rattle.sectors.specs.Part.{Part}
use Rattle.partitions.specs.declared.entry.Entry.{Entry}
use Rattle.partitions.specs.declared.list.App.{App}
use Rattle.partitions.specs.declared.list.App.TheVariants.{Factory, OtaSlot}
use Rattle.partitions.specs.declared.list.BadList.{BadList}
use Rattle.partitions.specs.declared.parts.Listing.{Listing}
use Rattle.partitions.specs.Entry.{entry_of, factory_subtype, slot_subtype, is_factory, keeps_rules, is_apart_from, entry_bytes, entry_part}

-- a list that keeps its rules, and the flash that it speaks of
pub record Partitions : Type 0 where
  pub entries : List Entry
  pub flash : List ℕ

-- the triples of the words
abbrev pub entries_of : List ℕ → List Entry
entries_of words = map entry_of (first_chunks 3 (length words / 3) words)

-- ---- the rules

-- a list has at most 16 slots
abbrev pub max_slots : ℕ
max_slots = 16

-- a flash has at most 16,777,216 bytes
abbrev pub max_flash : ℕ
max_flash = 16777216

-- how often a subtype is listed
unfoldable pub times_listed : ℕ → List Entry → ℕ
times_listed subtype entries = count_by (λ e. e.subtype == subtype) entries

-- n: every entry but factory is a slot
unfoldable pub slot_count : List Entry → ℕ
slot_count entries = count_by (λ e. not (is_factory e)) entries

-- each of n slots is listed exactly once
unfoldable pub has_each_slot_once : ℕ → List Entry → Bool
has_each_slot_once n entries = list_all (λ s. times_listed (slot_subtype s) entries == 1) (range_with_len 0 n)

-- each entry keeps the rules of one entry
unfoldable pub all_keep_rules : ℕ → ℕ → List Entry → Bool
all_keep_rules n capacity entries = list_all (keeps_rules n capacity) entries

-- none of the entries shares a byte with this one
unfoldable pub is_apart_from_all : Entry → List Entry → Bool
is_apart_from_all e es = list_all (is_apart_from e) es

-- no two overlap
unfoldable pub are_apart : List Entry → Bool
are_apart [] = true
are_apart (e ∷ es) = is_apart_from_all e es && are_apart es

-- the flash not too long, factory at most once, n from 2 to the most, each slot once, each entry right, no two overlapping
unfoldable pub keep_rules : List Entry → ℕ → Bool
keep_rules entries capacity =
    let n = slot_count entries in
    nat_le capacity max_flash
    && nat_le (times_listed factory_subtype entries) 1
    && nat_le 2 n
    && nat_le n max_slots
    && has_each_slot_once n entries
    && all_keep_rules n capacity entries
    && are_apart entries

-- the words are a right list for a flash of that many bytes: no triple is broken, and the entries keep the rules
unfoldable pub is_right : List ℕ → ℕ → Bool
is_right words capacity = (length words % 3 == 0) && keep_rules (entries_of words) capacity

-- ---- the test of a list

-- the entries of a right list
unfoldable pub right_entries : List ℕ → ℕ → Result (List Entry) BadList
right_entries words capacity = if is_right words capacity then Ok (entries_of words) else Err (record {})

-- the list of the words, with the flash
unfoldable pub list_of : List ℕ → List ℕ → Result Partitions BadList
list_of words flash =
    if is_right words (length flash)
    then Ok (record { entries = entries_of words; flash = flash })
    else Err (record {})

-- factory is listed
unfoldable pub has_factory : List Entry → Bool
has_factory entries = list_any is_factory entries

-- what a right list holds
unfoldable pub check : List ℕ → ℕ → Result Listing BadList
check words capacity =
    let entries = entries_of words in
    if is_right words capacity
    then Ok (record { slots = slot_count entries; factory = has_factory entries })
    else Err (record {})

-- ---- the part of the flash that belongs to an app

-- the subtype that lists an app
abbrev pub subtype_of : App → ℕ
subtype_of Factory = factory_subtype
subtype_of (OtaSlot slot) = slot_subtype slot.0

-- the first entry of a subtype, if it is listed
unfoldable pub entry_with : ℕ → List Entry → Option Entry
entry_with subtype entries = find (λ e. e.subtype == subtype) entries

-- exactly the bytes of an app's entry, if it is listed
unfoldable pub image_of : Partitions → App → Option (List ℕ)
image_of list app = option_map (λ e. entry_bytes e list.flash) (entry_with (subtype_of app) list.entries)

-- no byte, at the start of the flash
abbrev pub empty_part : Part → Part
empty_part flash = record { place = flash.place; content = [] }

-- the part of an entry, if there is one
abbrev pub part_or_empty : Option Entry → Part → Part
part_or_empty (Some e) flash = entry_part e flash
part_or_empty None flash = empty_part flash

-- exactly the part of an app's entry; empty where the list is refused or the app is not listed
unfoldable pub app_part : List ℕ → Part → App → Part
app_part words flash app =
    if is_right words (length flash.content)
    then part_or_empty (entry_with (subtype_of app) (entries_of words)) flash
    else empty_part flash
