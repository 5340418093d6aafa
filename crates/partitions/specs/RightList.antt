-- The rules of a partition list, sentence by sentence, and that the test `is_right` is the test of exactly these.
use Rattle.std.specs.Prelude.{ℕ, ◌%◌, ◌<◌, ◌≤◌, ◌≡◌, IsTrue, List, All, AllPairs, ◌⊎◌, ◌↔◌, length}
use Rattle.partitions.specs.declared.entry.Entry.{Entry}
use Rattle.partitions.specs.Entry.{factory_subtype, slot_subtype, end_of}
use Rattle.partitions.specs.PartitionList.{max_slots, max_flash, entries_of, times_listed, slot_count, is_right}

-- factory, or one of the n slots
abbrev pub FactoryOrSlot : ℕ → ℕ → Type 0
FactoryOrSlot n t = (t ≡ factory_subtype) ⊎ ((slot_subtype 0 ≤ t) × (t < slot_subtype n))

-- the byte of the flash at x belongs to the entry
abbrev pub Holds : Entry → ℕ → Type 0
Holds e x = (e.offset ≤ x) × (x < end_of e)

-- no byte belongs to both
abbrev pub ShareNoByte : Entry → Entry → Type 0
ShareNoByte a b = (x : ℕ) → Holds a x → Holds b x → ⊥

-- an entry, with n slots
pub record RightEntry (n capacity : ℕ) (e : Entry) : Type 0 where
  pub subtype : FactoryOrSlot n e.subtype
  pub offset : e.offset % 65536 ≡ 0
  pub nonzero : 0 < e.size
  pub size : e.size % 4096 ≡ 0
  pub ends : end_of e ≤ capacity

-- the entries: factory at most once; slots 16 to 16 + n - 1 each once, n from 2 to 16; every entry right; no byte in two of them
pub record RightEntries (entries : List Entry) (capacity : ℕ) : Type 0 where
  pub factory : times_listed factory_subtype entries ≤ 1
  pub least : 2 ≤ slot_count entries
  pub most : slot_count entries ≤ max_slots
  pub slots : (s : ℕ) → s < slot_count entries → times_listed (slot_subtype s) entries ≡ 1
  pub each : All (RightEntry (slot_count entries) capacity) entries
  pub separate : AllPairs ShareNoByte entries

-- the list: no broken triple, its entries, and the flash itself
pub record RightList (words : List ℕ) (capacity : ℕ) : Type 0 where
  pub triples : length words % 3 ≡ 0
  pub entries : RightEntries (entries_of words) capacity
  pub flash : capacity ≤ max_flash

-- of any words and any flash, the test and the rules agree
unfoldable pub RightMeans : Type 0
RightMeans = (words : List ℕ) (capacity : ℕ) → IsTrue (is_right words capacity) ↔ RightList words capacity
