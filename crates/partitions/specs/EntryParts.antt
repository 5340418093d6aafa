-- The laws of the parts: each entry of a right list has exactly its part of the flash, as the part of its app; and an app's image is that part's bytes.
use Rattle.std.specs.Prelude.{ℕ, ◌-◌, ◌==◌, ◌≡◌, IsTrue, List, Contains, [], Some, unwrap_or, Ok, length, if◌then◌else◌}
use Rattle.sectors.specs.Part.{Part}
use Rattle.partitions.specs.declared.entry.Entry.{Entry}
use Rattle.partitions.specs.declared.list.App.{App}
use Rattle.partitions.specs.declared.list.App.TheVariants.{Factory, OtaSlot}
use Rattle.partitions.specs.Entry.{factory_subtype, slot_subtype, entry_bytes, entry_part}
use Rattle.partitions.specs.PartitionList.{Partitions, entries_of, is_right, list_of, subtype_of, image_of, app_part}

-- the app of a subtype
abbrev pub app_of : ℕ → App
app_of t = if t == factory_subtype then Factory else OtaSlot (record { 0 = t - slot_subtype 0 })

-- an app is that of an entry: it has the entry's subtype, its part is exactly the entry's part of the flash, as long as the entry's size,
-- and its image in the accepted list is that part's bytes
pub record AppOfEntry (words : List ℕ) (flash : Part) (e : Entry) (app : App) : Type 0 where
  pub same_subtype : subtype_of app ≡ e.subtype
  pub same_part : app_part words flash app ≡ entry_part e flash
  pub whole : length (app_part words flash app).content ≡ e.size
  pub same_image : image_of (record { entries = entries_of words; flash = flash.content }) app ≡ Some (entry_bytes e flash.content)

-- of a right list, for every entry
unfoldable pub EntryParts : Type 0
EntryParts =
    (words : List ℕ) (flash : Part) (e : Entry)
    → IsTrue (is_right words (length flash.content)) → Contains (entries_of words) e → AppOfEntry words flash e (app_of e.subtype)

-- of every list that is accepted, and for every app: its image is exactly the bytes of its part; one that is not listed has an empty part
unfoldable pub ImageIsPart : Type 0
ImageIsPart =
    (words : List ℕ) (flash : Part) (list : Partitions) (app : App)
    → list_of words flash.content ≡ Ok list → unwrap_or (image_of list app) [] ≡ (app_part words flash app).content
