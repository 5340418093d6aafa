-- Both outcomes of the claim on the example node. The bytes of the cut sector come from the laws of cuts.
-- Assumes nothing.
use Rattle.std.proofs.Common.{◌≡◌, ℕ, zero, suc, ◌+◌, ◌<◌, ◌≤◌, true, List, ◌++◌, length, get_or, replicate, Some, Ok, Err, inl, refl, sym, ap, ap₂, ◌∙◌, arith, length-append}
use Rattle.std.specs.Prelude.{All}
use Rattle.std.specs.Int.{w32, to_le_bytes}
use Rattle.std.proofs.lemmas.List.{get_or-replicate, length-replicate, take_at}
use Rattle.std.proofs.lemmas.List.Elements.{All-append, All-replicate, All-from_get_or}
use Rattle.otadata.specs.declared.records.Record.{Record}
use Rattle.otadata.specs.declared.records.Fault.TheVariants.{Blank}
use Rattle.otadata.specs.declared.states.State.TheVariants.{New, Pending, Valid}
use Rattle.otadata.specs.CheckWord.{check_word}
use Rattle.otadata.specs.Record.{Reading, is_good, read, fields, bytes_of}
use Rattle.otadata.proofs.RoundTrip.{read_bytes_of, is_good_fields}
use Rattle.sectors.specs.declared.reading.SectorNumber.{SectorNumber}
use Rattle.sectors.specs.declared.reading.SectorNumber.TheVariants.{Zero, One}
use Rattle.sectors.specs.Sector.{other_than, read_sector, active}
use Rattle.sectors.specs.Otadata.{readings_of}
use Rattle.sectors.specs.Rewrite.{cut}
use Rattle.sectors.specs.PowerCut.{IsBlank, IsAllowed, History}
use Rattle.sectors.proofs.Stores.{length-cut}
use Rattle.sectors.proofs.Cuts.{record_in-sized, record_is, erased, programmed, unprogrammed}
use Rattle.sectors.proofs.Restating.{length-bytes_of}
use Rattle.sectors.proofs.Examples.{is_blank, store_in_slice}
use Rattle.sectors.proofs.ReadingLaw.{after_size}
use Rattle.partitions.specs.PartitionList.{slot_count}
use Rattle.boot_choice.specs.Example.{filled, example_settings, example_node}
use Rattle.boot_choice.proofs.Examples.{example_is_so}
use Rattle.boot.specs.Boot.{settled}
use Rattle.boot_laws.specs.Laws.{sector, marked}
use Rattle.boot_laws.specs.PowerCut.{Untouched, sector_left, next_boot, Premises, OwnPrevails, Demand3}
use Rattle.boot_laws.specs.Witnesses.{old_record, untouched_sector, new_record, new_bytes, blank_sector, refused_store, earlier_calls, sector_before, example_calls, example_case, WitnessesIn, Witnesses}
use Rattle.boot_laws.proofs.Boots.{marked_sector}
use Rattle.boot_laws.proofs.Changes.{none_alone}
use Rattle.boot_laws.proofs.PowerCut.{otadata_size, own_sector, other_sector, demand_3}

-- ---- small facts

same_record : {a b : Record} → ◌≡◌ {A = Reading} (Ok a) (Ok b) → a ≡ b
same_record e = cc

no_record : {r : Record} → ◌≡◌ {A = Reading} (Err Blank) (Ok r) → ⊥
no_record e = cc

new_is_not_pending : New ≡ Pending → ⊥
new_is_not_pending e = cc

valid_is_not_pending : Valid ≡ Pending → ⊥
valid_is_not_pending e = cc

erased_record : read (replicate 32 255) ≡ Err Blank
unfolding read
erased_record = refl

-- ---- lists of bytes

abbrev IsByte : ℕ → Type 0
IsByte byte = byte < 256

filled-length : (n byte : ℕ) → length (filled n byte) ≡ n
unfolding filled
filled-length n byte = length-replicate n byte

erased_byte : (n j : ℕ) → j < n → get_or (filled n 255) j 0 ≡ 255
unfolding filled
erased_byte n j below = get_or-replicate n j 255 0 below

erased_bytes : (n : ℕ) → All IsByte (filled n 255)
unfolding filled
erased_bytes n = All-replicate IsByte n 255 (omega arith)

byte_of_word : (word i : ℕ) → get_or (to_le_bytes w32 word) i 0 < 256
byte_of_word word zero = omega arith
byte_of_word word (suc zero) = omega arith
byte_of_word word (suc (suc zero)) = omega arith
byte_of_word word (suc (suc (suc zero))) = omega arith
byte_of_word word (suc (suc (suc (suc i)))) = omega arith

word_bytes : (word : ℕ) → All IsByte (to_le_bytes w32 word)
word_bytes word = All-from_get_or IsByte (to_le_bytes w32 word) 0 (λ i below. byte_of_word word i)

-- ---- the new record

new_are_bytes : All IsByte new_bytes
unfolding new_bytes fields
new_are_bytes =
    let q = new_record.sequence.0 in
    All-append IsByte (to_le_bytes w32 q ++ replicate 20 255 ++ to_le_bytes w32 0) (to_le_bytes w32 (check_word q))
    (All-append IsByte (to_le_bytes w32 q ++ replicate 20 255) (to_le_bytes w32 0)
    (All-append IsByte (to_le_bytes w32 q) (replicate 20 255) (word_bytes q) (All-replicate IsByte 20 255 (omega arith)))
    (word_bytes 0))
    (word_bytes (check_word q))

new_first : get_or new_bytes 0 0 ≡ 255
unfolding new_bytes fields
new_first = refl

new_length : length new_bytes ≡ 32
unfolding new_bytes
new_length = length-bytes_of new_record refl

new_read : read new_bytes ≡ Ok new_record
unfolding new_bytes
new_read = read_bytes_of new_record refl refl

new_good : is_good new_bytes ≡ true
unfolding new_bytes
new_good = is_good_fields new_record.sequence.0 (replicate 20 255) 0 (omega arith) refl (omega arith)

-- ---- the untouched sector

untouched_size : length untouched_sector ≡ 4096
unfolding untouched_sector
untouched_size = length-append (bytes_of old_record) (filled 4064 255) ∙ ap₂ ◌+◌ (length-bytes_of old_record refl) (filled-length 4064 255)

untouched_read : read_sector untouched_sector ≡ Ok old_record
unfolding untouched_sector
untouched_read =
    ap read (record_in-sized untouched_sector untouched_size ∙ take_at (bytes_of old_record) (filled 4064 255) 32 (length-bytes_of old_record refl))
    ∙ read_bytes_of old_record refl refl

-- ---- the rewritten sector

blank_size : length blank_sector ≡ 4096
blank_size = filled-length 4096 255

starts_blank : IsBlank blank_sector
starts_blank = is_blank blank_sector blank_size (λ j below. erased_byte 4096 j (omega arith))

-- a sector whose record is erased is found blank
reads_blank : (s : List ℕ) → length s ≡ 4096 → ((j : ℕ) → j < 32 → get_or s j 0 ≡ 255) → read_sector s ≡ Err Blank
reads_blank s size erased = ap read (is_blank s size erased) ∙ erased_record

refused_is : IsAllowed refused_store (cut new_bytes 2000 blank_sector)
refused_is = store_in_slice (cut new_bytes 2000 blank_sector) new_bytes 1 4095 (omega arith) 0

history : (k : ℕ) → k ≤ 4128 → History blank_sector (example_calls k) sector_before new_bytes k
history k upto =
    record {
      size = blank_size;
      are_bytes = erased_bytes 4096;
      begins = inl starts_blank;
      each = ((new_are_bytes, new_good, omega arith), (refused_is, ((new_are_bytes, new_good, upto), tt)));
      ends = refl;
    }

-- the bytes on which the last rewrite begins
before_size : length sector_before ≡ 4096
before_size =
    after_size blank_sector earlier_calls blank_sector new_bytes 2000
    (record {
      size = blank_size;
      are_bytes = erased_bytes 4096;
      begins = inl starts_blank;
      each = ((new_are_bytes, new_good, omega arith), (refused_is, tt));
      ends = refl;
    })

-- ---- its reading

left_size : (k : ℕ) (p : SectorNumber) → length (sector_left (example_case k p)) ≡ 4096
left_size k p = length-cut sector_before new_bytes k ∙ before_size

late_read : (p : SectorNumber) → read_sector (sector_left (example_case 4127 p)) ≡ Ok new_record
late_read p =
    ap read (record_is (sector_left (example_case 4127 p)) new_bytes (left_size 4127 p) new_length byte) ∙ new_read
  where
    byte : (j : ℕ) → j < 32 → get_or (cut new_bytes 4127 sector_before) j 0 ≡ get_or new_bytes j 0
    byte zero below = unprogrammed new_bytes sector_before before_size 31 0 (omega arith) (omega arith) ∙ sym new_first
    byte (suc j) below = programmed new_bytes sector_before before_size 31 (suc j) (omega arith) below (omega arith)

middle_read : (p : SectorNumber) → read_sector (sector_left (example_case 2000 p)) ≡ Err Blank
middle_read p =
    reads_blank (sector_left (example_case 2000 p)) (left_size 2000 p)
    (λ j below. erased new_bytes sector_before before_size 2000 j (omega arith) (omega arith))

-- ---- the two sectors after boot's marks: neither record is pending

module _ (k : ℕ) (p : SectorNumber) where
  abbrev otadata : List ℕ
  otadata = (next_boot (example_case k p)).otadata

  size : length otadata ≡ 8192
  size = otadata_size (sector_left (example_case k p)) untouched_sector (left_size k p) untouched_size p

  kept : (i : SectorNumber) (s : List ℕ) (reading : Reading) → sector i otadata ≡ s → read_sector s ≡ reading
      → ((r : Record) → reading ≡ Ok r → r.state ≡ Pending → ⊥)
      → read_sector (sector i (marked example_settings otadata)) ≡ reading
  kept i s reading there reads not_pending =
      ap read_sector (marked_sector example_settings otadata size i ∙ ap (settled example_settings) there)
      ∙ ap read_sector (none_alone example_settings s (λ on r holds. not_pending r (sym reads ∙ holds)))
      ∙ reads

  own_kept : (reading : Reading) → read_sector (sector_left (example_case k p)) ≡ reading → ((r : Record) → reading ≡ Ok r → r.state ≡ Pending → ⊥)
      → read_sector (sector p (marked example_settings otadata)) ≡ reading
  own_kept reading reads =
      kept p (sector_left (example_case k p)) reading (own_sector (sector_left (example_case k p)) untouched_sector (left_size k p) untouched_size p) reads

  other_kept : read_sector (sector (other_than p) (marked example_settings otadata)) ≡ Ok old_record
  other_kept =
      kept (other_than p) untouched_sector (Ok old_record)
      (other_sector (sector_left (example_case k p)) untouched_sector (left_size k p) untouched_size p) untouched_read
      (λ r is pending. valid_is_not_pending (ap (λ (x : Record). x.state) (same_record is) ∙ pending))

-- the new record has the higher sequence
new_active : (p : SectorNumber) (otadata : List ℕ) → read_sector (sector p otadata) ≡ Ok new_record → read_sector (sector (other_than p) otadata) ≡ Ok old_record
    → active (readings_of otadata) ≡ Some p
new_active Zero otadata own other = rw (own, other) refl
new_active One otadata own other = rw (own, other) refl

-- ---- the outcomes

module _ (p : SectorNumber) where
  untouched : Untouched example_node untouched_sector old_record
  unfolding slot_count
  untouched =
      record {
        size = untouched_size;
        holds = untouched_read;
        usable = refl;
        not_pending = λ on e. valid_is_not_pending e;
        passes = example_is_so.slot_1_passes;
      }

  premises : (k : ℕ) → k ≤ 4128 → Premises (example_case k p)
  premises k upto = record { history = history k upto; accepts = example_is_so.is_node; untouched = untouched }

  late_kept : read_sector (sector p (marked example_settings (next_boot (example_case 4127 p)).otadata)) ≡ Ok new_record
  late_kept = own_kept 4127 p (Ok new_record) (late_read p) (λ r is pending. new_is_not_pending (ap (λ (x : Record). x.state) (same_record is) ∙ pending))

  prevails : OwnPrevails (example_case 4127 p)
  unfolding slot_count
  prevails =
      record {
        own = new_record;
        is_active = new_active p (marked example_settings (next_boot (example_case 4127 p)).otadata) late_kept (other_kept 4127 p);
        holds = late_kept;
        passes = example_is_so.slot_0_passes;
      }

  middle_kept : read_sector (sector p (marked example_settings (next_boot (example_case 2000 p)).otadata)) ≡ Err Blank
  middle_kept = own_kept 2000 p (Err Blank) (middle_read p) (λ r is pending. no_record is)

  loses : OwnPrevails (example_case 2000 p) → ⊥
  loses w = no_record (sym middle_kept ∙ w.holds)

  witnesses_in : WitnessesIn p
  unfolding Demand3 prevails
  witnesses_in =
      let late = premises 4127 (omega arith) in
      let middle = premises 2000 (omega arith) in
      record {
        late = late;
        prevails = prevails;
        starts_new = (demand_3 (example_case 4127 p) late).own prevails;
        middle = middle;
        loses = loses;
        starts_old = (demand_3 (example_case 2000 p) middle).otherwise loses;
      }

pub witnesses : Witnesses
unfolding Witnesses
witnesses = witnesses_in
