-- An entry of the partition list: three words, the rules that one or two entries keep, and its part of the flash.
use Rattle.std.specs.Prelude.{ℕ, ◌+◌, ◌%◌, Bool, not, ◌&&◌, ◌||◌, ◌==◌, nat_le, nat_lt, List, slice_index, slice_range}
use Rattle.sectors.specs.Part.{Part}
use Rattle.partitions.specs.declared.entry.Entry.{Entry}

-- a triple of subtype, offset and size
abbrev pub entry_of : List ℕ → Entry
entry_of words = record { subtype = slice_index words 0; offset = slice_index words 1; size = slice_index words 2 }

-- the place after its last byte
abbrev pub end_of : Entry → ℕ
end_of e = e.offset + e.size

-- factory is subtype 0
abbrev pub factory_subtype : ℕ
factory_subtype = 0

-- the OTA slots are 16 and up
abbrev pub slot_subtype : ℕ → ℕ
slot_subtype s = 16 + s

abbrev pub is_factory : Entry → Bool
is_factory e = e.subtype == factory_subtype

-- factory, or one of n slots; the offset a multiple of 65,536, the size a nonzero multiple of 4,096; and it ends within the flash
abbrev pub keeps_rules : ℕ → ℕ → Entry → Bool
keeps_rules n capacity e =
    (is_factory e || (nat_le (slot_subtype 0) e.subtype && nat_lt e.subtype (slot_subtype n)))
    && (e.offset % 65536 == 0)
    && not (e.size == 0)
    && (e.size % 4096 == 0)
    && nat_le (end_of e) capacity

-- the two share no byte
abbrev pub is_apart_from : Entry → Entry → Bool
is_apart_from a b = nat_le (end_of a) b.offset || nat_le (end_of b) a.offset

-- its bytes of the flash
abbrev pub entry_bytes : Entry → List ℕ → List ℕ
entry_bytes e flash = slice_range flash e.offset (end_of e)

-- the same, as a part of the flash
abbrev pub entry_part : Entry → Part → Part
entry_part e flash = record { place = (flash.place.0, flash.place.1 + e.offset); content = entry_bytes e flash.content }
