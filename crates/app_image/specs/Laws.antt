-- Laws of the check.
use Rattle.std.specs.Prelude.{ℕ, ◌≡◌, ◌≤◌, ◌<◌, false, List, [], ◌∷◌, ◌++◌, length, slice_index, take, Result, Ok, Err}
use Rattle.sha256.specs.Sha256.{digest}
use Rattle.otadata.specs.Number.{reply_number}
use Rattle.app_image.specs.declared.Board.{Board}
use Rattle.app_image.specs.declared.Facts.{Facts}
use Rattle.app_image.specs.declared.layout.Ending.{Ending}
use Rattle.app_image.specs.declared.refusal.ImageRefusal.{ImageRefusal}
use Rattle.app_image.specs.Layout.{header_of, head_of, segment_count, chip_id, min_revision, max_revision, digest_flag, ending_of, before_digest, appended_digest}
use Rattle.app_image.specs.Check.{is_unlimited, header_test, descriptor_test, length_test, version_test, facts_of, check}
use Rattle.app_image.specs.Refusal.{number_of, place_of, answer_of}

-- ---- of an accepted image

-- it is for the board's chip, from a minimum revision on, up to a maximum if it has one
pub record Fits (image : List ℕ) (board : Board) : Type 0 where
  pub chip : chip_id image ≡ board.chip.0
  pub at_least : min_revision image ≤ board.revision.0
  pub at_most : is_unlimited (max_revision image) ≡ false → board.revision.0 ≤ max_revision image

unfoldable pub AcceptedFits : Type 0
AcceptedFits = (image : List ℕ) (board : Board) (facts : Facts) → check image board ≡ Ok facts → Fits image board

-- with a digest flag of 1 it has the SHA-256 of all bytes before its digest there
unfoldable pub AcceptedDigest : Type 0
AcceptedDigest =
    (image : List ℕ) (board : Board) (facts : Facts) → check image board ≡ Ok facts → digest_flag image ≡ 1
    → (ending : Ending) × ((ending_of image ≡ Ok ending) × (appended_digest image ending.end ≡ digest (before_digest image ending.end)))

-- it is as long as its bytes at most
unfoldable pub AcceptedWithin : Type 0
AcceptedWithin = (image : List ℕ) (board : Board) (facts : Facts) → check image board ≡ Ok facts → facts.length ≤ length image

-- bytes after it are ignored: whatever follows its whole length, it is accepted with the same facts
unfoldable pub TailIgnored : Type 0
TailIgnored =
    (image tail : List ℕ) (board : Board) (facts : Facts)
    → check image board ≡ Ok facts → check (take facts.length image ++ tail) board ≡ Ok facts

-- ---- the head decides

-- two lists have the same head
abbrev pub SameHead : List ℕ → List ℕ → Type 0
SameHead s t = (i : ℕ) → i < 40 → slice_index t i ≡ slice_index s i

-- then the tests of the header give the same, there are as many segments, there is a digest in both or in neither,
-- and with the same ending the tests after the segments and the facts are the same
pub record SameTests (s t : List ℕ) (board : Board) : Type 0 where
  pub header : header_test (header_of t) board ≡ header_test (header_of s) board
  pub count : segment_count t ≡ segment_count s
  pub flag : digest_flag t ≡ digest_flag s
  pub descriptor : descriptor_test (head_of t) ≡ descriptor_test (head_of s)
  pub whole : (size end : ℕ) → length_test size (digest_flag t) end ≡ length_test size (digest_flag s) end
  pub version : version_test (head_of t) board.chip ≡ version_test (head_of s) board.chip
  pub facts : (end : ℕ) → facts_of (head_of t) end ≡ facts_of (head_of s) end

unfoldable pub HeadDecides : Type 0
HeadDecides = (s t : List ℕ) (board : Board) → SameHead s t → SameTests s t board

-- ---- numbers

-- the answer: of an accepted image 0 with its facts, of a refused one its number and its place; its number is that of the reply
pub record AnswerLaw : Type 0 where
  pub accepted : (facts : Facts) → answer_of (Ok facts) ≡ record { number = 0; values = facts.length ∷ facts.entry ∷ facts.version.0 ∷ facts.segments ∷ [] }
  pub refused : (refusal : ImageRefusal) → answer_of (Err refusal) ≡ record { number = number_of refusal; values = place_of refusal ∷ [] }
  pub number : (reply : Result Facts ImageRefusal) → (answer_of reply).number ≡ reply_number number_of reply
