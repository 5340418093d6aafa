-- What an accepted image is.
-- Assumes nothing.
use Rattle.std.proofs.Common.{◌≡◌, ℕ, ◌≤◌, Bool, true, false, not, ◌&&◌, ◌||◌, ◌==◌, nat_le, nat_lt, List, length, slice_index, Result, Ok, Err, refl, sym, ap, ◌∙◌, arith, if◌then◌else◌}
use Rattle.std.specs.Cmp.Lexicographic.{same_text}
use Rattle.sha256.specs.Sha256.{digest}
use Rattle.std.proofs.lemmas.Bool.Decides.{nat_tests}
use Rattle.std.proofs.lemmas.List.{get_or-take}
use Rattle.app_image.specs.declared.Board.{Board}
use Rattle.app_image.specs.declared.Facts.{Facts}
use Rattle.app_image.specs.declared.layout.Ending.{Ending}
use Rattle.app_image.specs.declared.refusal.ImageRefusal.{ImageRefusal}
use Rattle.app_image.specs.Layout.{◌>>=◌, ◌>>◌, header_of, head_of, segment_count, digest_flag, chip_id, min_revision, max_revision, ending_of, checksum_place, whole_length, before_digest, appended_digest}
use Rattle.app_image.specs.Check.{refuse_if, is_count, is_unlimited, revision_fits, header_test, descriptor_test, length_test, checksum_test, version_test, digest_compared, digest_test, facts_of, check}
use Rattle.app_image.specs.Laws.{Fits, AcceptedFits, AcceptedDigest, AcceptedWithin}
use Rattle.app_image.proofs.Head.{front_two}

-- ---- what passed, where the tests after it gave a value

pub guard_ok : (wrong : Bool) (e : ImageRefusal) → refuse_if wrong e ≡ Ok tt → wrong ≡ false
guard_ok false e h = refl
guard_ok true e h = cc

next_ok : {A : Type 0} (r : Result (Unit {0}) ImageRefusal) (next : Result A ImageRefusal) (y : A) → (r >> next) ≡ Ok y → (r ≡ Ok tt) × (next ≡ Ok y)
next_ok (Ok x) next y e = (refl, e)
next_ok (Err r) next y e = (cc, cc)

bind_ok : {A B : Type 0} (r : Result A ImageRefusal) (f : A → Result B ImageRefusal) (y : B) → (r >>= f) ≡ Ok y → (x : A) × ((r ≡ Ok x) × (f x ≡ Ok y))
bind_ok (Ok x) f y e = (x, (refl, e))
bind_ok (Err r) f y e = absurd cc

same_ok : {x y : Facts} (r : Result Facts ImageRefusal) → r ≡ Ok x → r ≡ Ok y → x ≡ y
same_ok r e f = cc

-- an accepted image passed each test
pub record Passed (image : List ℕ) (board : Board) (facts : Facts) : Type 0 where
  pub ending : Ending
  pub sized : nat_lt (length image) 288 ≡ false
  pub header : header_test (header_of image) board ≡ Ok tt
  pub walk : ending_of image ≡ Ok ending
  pub descriptor : descriptor_test (head_of image) ≡ Ok tt
  pub whole : length_test (length image) (digest_flag image) ending.end ≡ Ok tt
  pub checksum : checksum_test (slice_index image (checksum_place ending.end)) ending ≡ Ok tt
  pub version : version_test (head_of image) board.chip ≡ Ok tt
  pub digest : digest_test image ending.end ≡ Ok tt
  pub facts_are : facts_of (head_of image) ending.end ≡ facts

pub accepted_passed : (image : List ℕ) (board : Board) (facts : Facts) → check image board ≡ Ok facts → Passed image board facts
unfolding check
accepted_passed image board facts accepted =
    let a = next_ok _ _ facts accepted in
    let b = next_ok _ _ facts a.1 in
    let w = bind_ok _ _ facts b.1 in
    let c = next_ok _ _ facts w.1.1 in
    let d = next_ok _ _ facts c.1 in
    let e = next_ok _ _ facts d.1 in
    let f = next_ok _ _ facts e.1 in
    let g = next_ok _ _ facts f.1 in
    record {
      ending = w.0;
      sized = guard_ok _ _ a.0;
      header = b.0;
      walk = w.1.0;
      descriptor = c.0;
      whole = d.0;
      checksum = e.0;
      version = f.0;
      digest = g.0;
      facts_are = same_ok _ refl g.1;
    }

-- ---- the header

same_number : (a b : ℕ) → not (a == b) ≡ false → a ≡ b
same_number a b same = grind (arith, nat_tests)

at_least_one : (count : ℕ) → not (is_count count) ≡ false → 1 ≤ count
at_least_one count passed = grind (arith, nat_tests)

from_least : (least most n : ℕ) → not (nat_le least n && (is_unlimited most || nat_le n most)) ≡ false → least ≤ n
from_least least most n fits = grind (arith, nat_tests)

up_to_most : (least most n : ℕ) → not (nat_le least n && (is_unlimited most || nat_le n most)) ≡ false → is_unlimited most ≡ false → n ≤ most
up_to_most least most n fits limited = grind (arith, nat_tests)

pub record RightHeader (header : List ℕ) (board : Board) : Type 0 where
  pub counted : 1 ≤ segment_count header
  pub fits : Fits header board

pub right_header : (header : List ℕ) (board : Board) → header_test header board ≡ Ok tt → RightHeader header board
unfolding header_test revision_fits
right_header header board passed =
    let a = next_ok _ _ tt passed in
    let b = next_ok _ _ tt a.1 in
    let c = next_ok _ _ tt b.1 in
    let d = next_ok _ _ tt c.1 in
    record {
      counted = at_least_one (segment_count header) (guard_ok _ _ b.0);
      fits =
          record {
            chip = same_number (chip_id header) board.chip.0 (guard_ok _ _ c.0);
            at_least = from_least (min_revision header) (max_revision header) board.revision.0 (guard_ok _ _ d.0);
            at_most = up_to_most (min_revision header) (max_revision header) board.revision.0 (guard_ok _ _ d.0);
          };
    }

pub accepted_fits : AcceptedFits
unfolding AcceptedFits
accepted_fits image board facts accepted =
    let fits : Fits (header_of image) board = (right_header (header_of image) board (accepted_passed image board facts accepted).header).fits in
    let least : min_revision (header_of image) ≡ min_revision image = front_two 24 image 15 (omega arith) in
    let most : max_revision (header_of image) ≡ max_revision image = front_two 24 image 17 (omega arith) in
    record {
      chip = sym (front_two 24 image 12 (omega arith)) ∙ fits.chip;
      at_least = rw least at fits.at_least;
      at_most = rw most at fits.at_most;
    }

-- ---- the digest

chosen : (test : Bool) (r : Result (Unit {0}) ImageRefusal) → (if test then r else Ok tt) ≡ Ok tt → test ≡ true → r ≡ Ok tt
chosen true r e is = e
chosen false r e is = cc

not_not : (b : Bool) → not b ≡ false → true ≡ b
not_not true e = refl
not_not false e = cc

is_one : (flag : ℕ) → flag ≡ 1 → (flag == 1) ≡ true
is_one flag one = grind (arith, nat_tests)

digest_same : (image : List ℕ) (end : ℕ) → digest_test image end ≡ Ok tt → digest_flag image ≡ 1 → appended_digest image end ≡ digest (before_digest image end)
unfolding digest_test digest_compared
digest_same image end passed flag = same_text _ _ (not_not _ (guard_ok _ _ (chosen (digest_flag image == 1) _ passed (is_one _ flag))))

pub accepted_digest : AcceptedDigest
unfolding AcceptedDigest
accepted_digest image board facts accepted flag =
    let passed : Passed image board facts = accepted_passed image board facts accepted in
    (passed.ending, (passed.walk, digest_same image passed.ending.end passed.digest flag))

-- ---- the length

enough : (size whole : ℕ) → nat_lt size whole ≡ false → whole ≤ size
enough size whole passed = grind (arith, nat_tests)

pub long_enough : (size flag end : ℕ) → length_test size flag end ≡ Ok tt → whole_length flag end ≤ size
unfolding length_test
long_enough size flag end passed = enough size (whole_length flag end) (guard_ok _ _ passed)

pub enough_passes : (size flag end : ℕ) → whole_length flag end ≤ size → length_test size flag end ≡ Ok tt
unfolding length_test
enough_passes size flag end long = grind (arith, nat_tests)

-- the whole length of an accepted image
pub length_is : (image : List ℕ) (board : Board) (facts : Facts) (passed : Passed image board facts) → facts.length ≡ whole_length (digest_flag image) passed.ending.end
unfolding facts_of
length_is image board facts passed =
    sym (ap (λ (f : Facts). f.length) passed.facts_are) ∙ ap (λ (flag : ℕ). whole_length flag passed.ending.end) (get_or-take 40 image 23 0 (omega arith))

pub accepted_within : AcceptedWithin
unfolding AcceptedWithin
accepted_within image board facts accepted =
    let passed : Passed image board facts = accepted_passed image board facts accepted in
    omega (arith, length_is image board facts passed, long_enough (length image) (digest_flag image) passed.ending.end passed.whole)
