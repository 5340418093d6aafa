-- Worked examples of an app image: one of one 256-byte segment, and where one of thirteen segments ends.
use Rattle.std.specs.Prelude.{ℕ, ◌≡◌, List, [], ◌∷◌, ◌++◌, replicate, slice_index, slice_set, Ok, Err}
use Rattle.app_image.specs.declared.Facts.{Facts}
use Rattle.app_image.specs.declared.Board.{Board}
use Rattle.app_image.specs.declared.refusal.ImageRefusal.TheVariants.{BadSegment}
use Rattle.app_image.specs.Layout.{ending_of, checksum_place, whole_length}
use Rattle.app_image.specs.Check.{check}

-- one 256-byte segment, its descriptor zero but for its word and version 1, with a digest flag
unfoldable pub one_segment : ℕ → List ℕ
one_segment flag =
    0xE9 ∷ 1 ∷ replicate 21 0 ++ flag ∷ []
    ++ replicate 4 0 ++ 0 ∷ 1 ∷ 0 ∷ 0 ∷ []
    ++ 0x32 ∷ 0x54 ∷ 0xCD ∷ 0xAB ∷ 1 ∷ 0 ∷ 0 ∷ 0 ∷ replicate 248 0
    ++ replicate 15 0 ++ 0xEE ∷ []
    ++ replicate 32 0

-- the board of a chip id and a revision
abbrev pub board_of : ℕ → ℕ → Board
board_of chip revision = record { chip = record { 0 = chip }; revision = record { 0 = revision } }

-- what is known of it
abbrev pub one_segment_facts : Facts
one_segment_facts = record { length = 304; entry = 0; version = record { 0 = 1 }; segments = 1 }

-- without a digest it is accepted, for chip 0 in every revision: its minimum and maximum are 0
unfoldable pub OneSegmentAccepted : Type 0
OneSegmentAccepted = (revision : ℕ) → check (one_segment 0) (board_of 0 revision) ≡ Ok one_segment_facts

-- with either flag its segment ends at 288, and its data has the checksum 0xEE
unfoldable pub OneSegmentEnds : Type 0
OneSegmentEnds = (flag : ℕ) → ending_of (one_segment flag) ≡ Ok (record { end = 288; checksum = 0xEE })

-- which stands at 303; the whole length is 304, with a digest 336
unfoldable pub OneSegmentLayout : Type 0
OneSegmentLayout = ((flag : ℕ) → slice_index (one_segment flag) (checksum_place 288) ≡ 0xEE) × (checksum_place 288 ≡ 303) × (whole_length 0 288 ≡ 304) × (whole_length 1 288 ≡ 336)

-- with a data length of 258, which is no multiple of 4, it is refused
unfoldable pub OddLengthRefused : Type 0
OddLengthRefused = check (slice_set (one_segment 0) 28 2) (board_of 0 0) ≡ Err (BadSegment 24)

-- of thirteen segments that end at 0x89B7C the checksum is at 0x89B7F, and the length with a digest is 564,128
unfoldable pub ThirteenSegmentsLayout : Type 0
ThirteenSegmentsLayout = (checksum_place 0x89B7C ≡ 0x89B7F) × (whole_length 1 0x89B7C ≡ 564128)
