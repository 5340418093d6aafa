-- The turns of the walk over the segments.
-- Assumes nothing.
use Rattle.std.proofs.Common.{◌≡◌, ℕ, zero, suc, ◌+◌, ◌<◌, List, ◌∷◌, slice_range, Result, Ok, Err, refl, add-one, arith}
use Rattle.std.proofs.lemmas.List.Sums.{fold-append}
use Rattle.std.specs.Int.Bits.{bit_xor}
use Rattle.app_image.specs.declared.refusal.ImageRefusal.{ImageRefusal}
use Rattle.app_image.specs.declared.layout.Segment.{Segment}
use Rattle.app_image.specs.Layout.{◌>>=◌, segment_at, segments_from, end_of, xored, joined, ending_from, walked}

-- none left
pub no_more : (image : List ℕ) (n at sum : ℕ) → n ≡ 0 → walked image n at sum ≡ Ok (record { end = at; checksum = sum })
unfolding walked segments_from
no_more image n at sum none = rw none refl

-- the next is bad
pub bad_one : (image : List ℕ) (n at sum : ℕ) (e : ImageRefusal) → 0 < n → segment_at image at ≡ Err e → walked image n at sum ≡ Err e
unfolding walked segments_from
bad_one image zero at sum e more bad = absurd (omega arith)
bad_one image (suc k) at sum e more bad = rw bad refl

joined_on : (image : List ℕ) (at sum : ℕ) (segment : Segment) (rest : Result (List Segment) ImageRefusal)
    → ((rest >>= λ others. Ok (segment ∷ others)) >>= λ all. Ok (ending_from image at sum all))
    ≡ (rest >>= λ all. Ok (ending_from image (end_of segment) (xored sum (slice_range image segment.start (end_of segment))) all))
joined_on image at sum segment (Ok all) = rw (fold-append bit_xor sum (slice_range image segment.start (end_of segment)) (joined image all)) refl
joined_on image at sum segment (Err e) = refl

-- the next is good
pub one_more : (image : List ℕ) (n k at sum : ℕ) (segment : Segment) → n ≡ k + 1 → segment_at image at ≡ Ok segment
    → walked image n at sum ≡ walked image k (end_of segment) (xored sum (slice_range image segment.start (end_of segment)))
unfolding walked segments_from
one_more image n k at sum segment more good = rw (more, add-one, good) (joined_on image at sum segment (segments_from image k (end_of segment)))
