-- The law of a sector's reading through any list of cut rewrites.
-- What the list keeps true: the first four bytes are 0xFF, or the record is a good one with its first bytes, at most three of
-- them, turned to 0xFF. The check word is one-to-one, so such a record reads as itself or as none.
use Rattle.std.proofs.Common.{◌≡◌, ◌⊎◌, ℕ, zero, suc, ◌+◌, ◌-◌, ◌<◌, ◌≤◌, true, false, List, [], ◌∷◌, length, take, get_or, refl, sym, ap, ◌∙◌, subst, inl, inr, ⊎_elim, arith}
use Rattle.std.specs.Prelude.{All, IsErr, Result, Ok, Err}
use Rattle.std.proofs.lemmas.List.{get_or-replicate}
use Rattle.std.proofs.lemmas.Bool.{cases_Bool, cases_lt}
use Rattle.std.proofs.lemmas.Grind.{common_steps}
use Rattle.std.specs.Result.{result_unwrap_or}
use Rattle.otadata.specs.Record.{sequence_field, check_field, is_good}
use Rattle.otadata.proofs.OneToOne.{check_word_one_to_one}
use Rattle.otadata.proofs.FieldBytes.{sequence_field-bytes, check_field-bytes, is_good-true}
use Rattle.sectors.specs.declared.rewriting.Refusal.{Refusal}
use Rattle.sectors.specs.Sector.{record_in}
use Rattle.sectors.specs.Rewrite.{cut, single_store, rewrite}
use Rattle.sectors.specs.Slice.{slice, with_slice}
use Rattle.sectors.specs.PowerCut.{IsBlank, reads_as, Call, rewrite_cut, store_refused, rewrite_refused, IsAllowed, leaves, after, AllAllowed, Last, none, last, noted, last_of, History, Reads, FinishedLaw, ReadingLaw}
use Rattle.sectors.proofs.Stores.{length-cut}
use Rattle.sectors.proofs.Slices.{slice_same}
use Rattle.sectors.proofs.Cuts.{record_in-sized, record_is, record_in-byte, erased, kept, programmed, unprogrammed, finished_record}

-- ---- reading

pub reads_record : (s : List ℕ) → is_good (record_in s) ≡ true → reads_as s ≡ record_in s
unfolding reads_as
reads_record s good = simp good

pub reads_none : (s : List ℕ) → is_good (record_in s) ≡ false → reads_as s ≡ []
unfolding reads_as
reads_none s bad = simp bad

pub reads_alike : (s t : List ℕ) → record_in s ≡ record_in t → reads_as s ≡ reads_as t
unfolding reads_as
reads_alike s t same = simp same

below_four : (P : ℕ → Type 0) → P 0 → P 1 → P 2 → P 3 → (j : ℕ) → j < 4 → P j
below_four P at_0 at_1 at_2 at_3 zero below = at_0
below_four P at_0 at_1 at_2 at_3 (suc zero) below = at_1
below_four P at_0 at_1 at_2 at_3 (suc (suc zero)) below = at_2
below_four P at_0 at_1 at_2 at_3 (suc (suc (suc zero))) below = at_3
below_four P at_0 at_1 at_2 at_3 (suc (suc (suc (suc j)))) below = absurd (omega arith)

-- ---- the two shapes

abbrev Erased : List ℕ → Type 0
Erased s = (j : ℕ) → j < 4 → get_or s j 0 ≡ 255

-- the record is g with its first i bytes turned to 0xFF
record Partly (g : List ℕ) (i : ℕ) (s : List ℕ) : Type 0 where
  are_bytes : (j : ℕ) → get_or g j 0 < 256
  was_good : is_good g ≡ true
  few : i ≤ 3
  gone : (j : ℕ) → j < i → get_or s j 0 ≡ 255
  there : (j : ℕ) → i ≤ j → j < 32 → get_or s j 0 ≡ get_or g j 0

data Shape (s : List ℕ) : Type 0 where
  is_erased : Erased s → Shape s
  is_partly : (g : List ℕ) (i : ℕ) → Partly g i s → Shape s

-- an erased sequence is 4,294,967,295, which no good record has
erased_reads : (s : List ℕ) → length s ≡ 4096 → Erased s → reads_as s ≡ []
erased_reads s size all = reads_none s (⊎_elim
    (λ (good : is_good (record_in s) ≡ true).
    absurd (omega (
      arith,
      (is_good-true (record_in s) good).to_last,
      sequence_field-bytes (record_in s),
      record_in-byte s size 0 (omega arith) ∙ all 0 (omega arith),
      record_in-byte s size 1 (omega arith) ∙ all 1 (omega arith),
      record_in-byte s size 2 (omega arith) ∙ all 2 (omega arith),
      record_in-byte s size 3 (omega arith) ∙ all 3 (omega arith),
    )))
    (λ (bad : is_good (record_in s) ≡ false). bad)
    (cases_Bool (is_good (record_in s))))

-- ---- a partly erased record reads as itself or as none

module _ (s g : List ℕ) (i : ℕ) (size : length s ≡ 4096) (p : Partly g i s) where
  -- an erased byte is no lower than the one that was there
  no_lower : (j : ℕ) → j < 32 → get_or g j 0 ≤ get_or (record_in s) j 0
  no_lower j below = grind (arith, record_in-byte s size j below, p.there j, p.gone j, p.are_bytes j)

  unchanged : (j : ℕ) → 3 ≤ j → j < 32 → get_or (record_in s) j 0 ≡ get_or g j 0
  unchanged j from below = record_in-byte s size j below ∙ p.there j (omega (arith, p.few)) below

  same_check : check_field (record_in s) ≡ check_field g
  same_check = omega (
    arith,
    check_field-bytes (record_in s),
    check_field-bytes g,
    unchanged 28 (omega arith) (omega arith),
    unchanged 29 (omega arith) (omega arith),
    unchanged 30 (omega arith) (omega arith),
    unchanged 31 (omega arith) (omega arith),
  )

  -- so no byte of the sequence was changed
  same_low : is_good (record_in s) ≡ true → (j : ℕ) → j < 4 → get_or (record_in s) j 0 ≡ get_or g j 0
  same_low good j below =
      let now = is_good-true (record_in s) good in
      let was = is_good-true g p.was_good in
      let same = check_word_one_to_one (sequence_field (record_in s)) (sequence_field g) (omega (arith, now.to_last)) (omega (arith, was.to_last)) (sym now.check ∙ same_check ∙ was.check) in
      let bytes_now = sequence_field-bytes (record_in s) in
      let bytes_was = sequence_field-bytes g in
      let low_0 = no_lower 0 (omega arith) in
      let low_1 = no_lower 1 (omega arith) in
      let low_2 = no_lower 2 (omega arith) in
      let low_3 = no_lower 3 (omega arith) in
      below_four (λ j. get_or (record_in s) j 0 ≡ get_or g j 0) (omega arith) (omega arith) (omega arith) (omega arith) j below

  same_bytes : is_good (record_in s) ≡ true → (j : ℕ) → j < 32 → get_or s j 0 ≡ get_or g j 0
  same_bytes good j below = grind (arith, record_in-byte s size j below, unchanged j, same_low good j)

  partly_reads : (reads_as s ≡ []) ⊎ (record_in s ≡ g)
  partly_reads =
      ⊎_elim
      (λ (good : is_good (record_in s) ≡ true). inr (record_is s g size (is_good-true g p.was_good).size (same_bytes good)))
      (λ (bad : is_good (record_in s) ≡ false). inl (reads_none s bad))
      (cases_Bool (is_good (record_in s)))

-- ---- one cut rewrite

-- what a cut rewrite leaves, and how that reads
record Step (s rec : List ℕ) (k : ℕ) : Type 0 where
  shape : Shape (cut rec k s)
  reads : Reads s rec k (cut rec k s)

module _ (s rec : List ℕ) (k : ℕ) (size : length s ≡ 4096) (are_bytes : (j : ℕ) → get_or rec j 0 < 256) (good : is_good rec ≡ true) where
  new_size : length (cut rec k s) ≡ 4096
  new_size = length-cut s rec k ∙ size

  -- the sequence is erased: none is read
  step_erased : k < 4128 → Erased (cut rec k s) → Step s rec k
  step_erased unfinished all =
      record {
        shape = is_erased all;
        reads = record {
          one_of = inr (inr (erased_reads (cut rec k s) new_size all));
          finished = λ (whole : k ≡ 4128). absurd (omega arith);
        };
      }

  -- at most three bytes of the new record are missing
  step_new : k ≤ 4128 → 4125 ≤ k → Step s rec k
  step_new upto from =
      record {
        shape = is_partly rec (4128 - k) missing;
        reads = record {
          one_of = inr (⊎_elim (λ (n : reads_as (cut rec k s) ≡ []). inr n) (λ (e : record_in (cut rec k s) ≡ rec). inl (reads_rec e)) (partly_reads (cut rec k s) rec (4128 - k) new_size missing));
          finished = λ (whole : k ≡ 4128). reads_rec (record_is (cut rec k s) rec new_size (is_good-true rec good).size (λ j below. missing.there j (omega arith) below));
        };
      }
    where
      split : k ≡ 4096 + (k - 4096)
      split = omega arith

      at : (j : ℕ) → get_or (cut rec k s) j 0 ≡ get_or (cut rec (4096 + (k - 4096)) s) j 0
      at j = ap (λ n. get_or (cut rec n s) j 0) split

      missing : Partly rec (4128 - k) (cut rec k s)
      missing =
          record {
            are_bytes = are_bytes;
            was_good = good;
            few = omega arith;
            gone = λ j below. at j ∙ unprogrammed rec s size (k - 4096) j (omega arith) (omega arith);
            there = λ j from below. at j ∙ programmed rec s size (k - 4096) j (omega arith) below (omega arith);
          }

      reads_rec : record_in (cut rec k s) ≡ rec → reads_as (cut rec k s) ≡ rec
      reads_rec e = reads_record (cut rec k s) (ap is_good e ∙ good) ∙ e

  -- only bytes of the old sequence are erased: of its i missing ones, now i'
  module _ (old : List ℕ) (i i' : ℕ) (was : Partly old i s) (more : i ≤ i') (early : k ≤ i') (few : i' ≤ 3)
      (lost : (j : ℕ) → j < i' → k ≤ j → j < i) where
    still : Partly old i' (cut rec k s)
    still =
        record {
          are_bytes = was.are_bytes;
          was_good = was.was_good;
          few = few;
          gone = λ j below. grind (arith, kept rec s size k j, erased rec s size k j, was.gone j, lost j);
          there = λ j from below. kept rec s size k j (omega arith) (omega arith) ∙ was.there j (omega arith) below;
        }

    -- where the old record is still read, nothing of it was missing before either
    old_was : record_in (cut rec k s) ≡ old → record_in s ≡ old
    old_was e =
        record_is s old size (is_good-true old was.was_good).size
        (λ j below.
        let in_record = record_in-byte (cut rec k s) new_size j below in
        let in_old = ap (λ (r : List ℕ). get_or r j 0) e in
        grind (arith, was.there j, was.gone j, still.gone j))

    step_old : Step s rec k
    step_old =
        record {
          shape = is_partly old i' still;
          reads = record {
            one_of = ⊎_elim
                (λ (n : reads_as (cut rec k s) ≡ []). inr (inr n))
                (λ (e : record_in (cut rec k s) ≡ old). inl (reads_alike (cut rec k s) s (e ∙ sym (old_was e))))
                (partly_reads (cut rec k s) old i' new_size still);
            finished = λ (whole : k ≡ 4128). absurd (omega arith);
          };
        }

  step_early : k ≤ 3 → Shape s → Step s rec k
  step_early early (is_erased all) =
      step_erased (omega arith) (λ j below. grind (arith, kept rec s size k j, erased rec s size k j, all j))
  step_early early (is_partly old i was) =
      ⊎_elim
      (λ (h : k < suc i). step_old old i i was (omega arith) (omega arith) was.few (λ j below from. below))
      (λ (h : suc i ≤ k). step_old old i k was (omega arith) (omega arith) early (λ j below from. absurd (omega arith)))
      (cases_lt k (suc i))

  step_middle : 4 ≤ k → k ≤ 4124 → Step s rec k
  step_middle from upto =
      step_erased (omega arith)
      (λ j below.
      ⊎_elim
      (λ (h : k < 4097). erased rec s size k j (omega arith) (omega arith))
      (λ (h : 4097 ≤ k).
      let split : k ≡ 4096 + (k - 4096) = omega arith in
      ap (λ n. get_or (cut rec n s) j 0) split ∙ unprogrammed rec s size (k - 4096) j (omega arith) (omega arith))
      (cases_lt k 4097))

  step : k ≤ 4128 → Shape s → Step s rec k
  step upto old =
      ⊎_elim
      (λ (early : k < 4). step_early (omega arith) old)
      (λ (h : 4 ≤ k). ⊎_elim (λ (middle : k < 4125). step_middle h (omega arith)) (λ (late : 4125 ≤ k). step_new upto late) (cases_lt k 4125))
      (cases_lt k 4)

-- ---- refused calls

-- a refused call leaves what it was lent
refused : (r : Result (List ℕ) Refusal) (s : List ℕ) → IsErr r → result_unwrap_or r s ≡ s
refused (Ok t) s is_err = cc
refused (Err e) s is_err = refl

byte_of_front : (s : List ℕ) (n j : ℕ) → get_or s j 0 < 256 → get_or (take n s) j 0 < 256
byte_of_front s n j is_byte = grind (arith, common_steps)

-- ---- the list

-- what is known of the last rewrite
abbrev Told : Last → List ℕ → Type 0
Told none s = Unit
Told (last before bytes k) s = Reads before bytes k s

record Known (l : Last) (s : List ℕ) : Type 0 where
  size : length s ≡ 4096
  shape : Shape s
  told : Told l s

-- a slice that comes back as it was keeps it
put_back : (from size : ℕ) (s : List ℕ) (l : Last) {left : List ℕ} → left ≡ slice from size s → Known l s → Known l (with_slice from size left s)
put_back from size s l same now = subst (Known l) (sym (ap (λ (x : List ℕ). with_slice from size x s) same ∙ slice_same from size s)) now

byte_at : (xs : List ℕ) → All (λ byte. byte < 256) xs → (j : ℕ) → get_or xs j 0 < 256
byte_at xs all j = grind (arith, common_steps, all j 0)

-- a call keeps it
keeps : (call : Call) (s : List ℕ) (l : Last) → IsAllowed call s → Known l s → Known (noted call s l) (leaves call s)
keeps (rewrite_cut bytes k) s l (are_bytes, good, upto) now =
    let done = step s bytes k now.size (byte_at bytes are_bytes) good upto now.shape in
    record { size = length-cut s bytes k ∙ now.size; shape = done.shape; told = done.reads }
keeps (store_refused from size bytes m) s l is_err now = put_back from size s l (refused (single_store (slice from size s) bytes m) (slice from size s) is_err) now
keeps (rewrite_refused from size bytes) s l is_err now = put_back from size s l (refused (rewrite (slice from size s) bytes) (slice from size s) is_err) now

all_keep : (calls : List Call) (s : List ℕ) (l : Last) → AllAllowed calls s → Known l s → Known (last_of calls s l) (after calls s)
all_keep [] s l allowed now = now
all_keep (call ∷ calls) s l (allowed, rest) now = all_keep calls (leaves call s) (noted call s l) rest (keeps call s l allowed now)

start_shape : (s : List ℕ) → length s ≡ 4096 → ((j : ℕ) → get_or s j 0 < 256) → IsBlank s ⊎ (is_good (record_in s) ≡ true) → Shape s
start_shape s size are_bytes (inl blank) =
    is_erased (λ j below. sym (record_in-byte s size j (omega arith)) ∙ ap (λ (r : List ℕ). get_or r j 0) blank ∙ get_or-replicate 32 j 255 0 (omega arith))
start_shape s size are_bytes (inr good) =
    is_partly (record_in s) 0
    (record {
      are_bytes = λ j. rw (record_in-sized s size) (byte_of_front s 32 j (are_bytes j));
      was_good = good;
      few = omega arith;
      gone = λ j below. absurd (omega arith);
      there = λ j from below. sym (record_in-byte s size j below);
    })

known_after : (start : List ℕ) (calls : List Call) (before bytes : List ℕ) (k : ℕ) → History start calls before bytes k
    → Known (last before bytes k) (after calls start)
known_after start calls before bytes k history =
    subst (λ (l : Last). Known l (after calls start)) history.ends
    (all_keep calls start none history.each (record { size = history.size; shape = start_shape start history.size (byte_at start history.are_bytes) history.begins; told = tt }))

pub reading_law : ReadingLaw
unfolding ReadingLaw
reading_law start calls before bytes k history = (known_after start calls before bytes k history).told

-- the sector keeps its size
pub after_size : (start : List ℕ) (calls : List Call) (before bytes : List ℕ) (k : ℕ) → History start calls before bytes k → length (after calls start) ≡ 4096
after_size start calls before bytes k history = (known_after start calls before bytes k history).size

-- a single cut rewrite is such a history
pub one_rewrite : (start bytes : List ℕ) (k : ℕ)
    → length start ≡ 4096 → All (λ byte. byte < 256) start → IsBlank start ⊎ (is_good (record_in start) ≡ true)
    → All (λ byte. byte < 256) bytes → is_good bytes ≡ true → k ≤ 4128 → History start (rewrite_cut bytes k ∷ []) start bytes k
one_rewrite start bytes k size start_are_bytes begins are_bytes good upto =
    record { size = size; are_bytes = start_are_bytes; begins = begins; each = ((are_bytes, good, upto), tt); ends = refl }

-- ---- a finished rewrite, on whatever bytes

pub finished_law : FinishedLaw
unfolding FinishedLaw
finished_law s bytes size good =
    let same = finished_record bytes s size (is_good-true bytes good).size in
    reads_record (cut bytes 4128 s) (ap is_good same ∙ good) ∙ same
