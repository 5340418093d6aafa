-- The fields of an image by their bytes; so the head decides its tests and the facts.
-- Assumes nothing.
use Rattle.std.proofs.Common.{◌≡◌, ℕ, ◌+◌, ◌*◌, ◌<◌, ◌≤◌, List, get_or, take, drop, refl, sym, ◌∙◌, arith}
use Rattle.std.proofs.lemmas.Grind.{common_steps}
use Rattle.std.proofs.lemmas.List.{get_or-take}
use Rattle.std.specs.Int.{w16, w32, from_le_bytes}
use Rattle.app_image.specs.Check.{header_test, revision_fits, descriptor_test, length_test, version_test, facts_of}
use Rattle.app_image.specs.Laws.{SameHead, HeadDecides}

-- two and four bytes as a number
pub two : (bytes : List ℕ) (at : ℕ) → from_le_bytes w16 (take 2 (drop at bytes)) ≡ get_or bytes at 0 + get_or bytes (at + 1) 0 * 256
two bytes at = grind (arith, common_steps)

pub four : (bytes : List ℕ) (at : ℕ)
    → from_le_bytes w32 (take 4 (drop at bytes))
    ≡ get_or bytes at 0 + get_or bytes (at + 1) 0 * 256 + get_or bytes (at + 2) 0 * 65536 + get_or bytes (at + 3) 0 * 16777216
four bytes at = grind (arith, common_steps)

-- and so of a front
pub front_two : (n : ℕ) (bytes : List ℕ) (at : ℕ) → at + 2 ≤ n → from_le_bytes w16 (take 2 (drop at (take n bytes))) ≡ from_le_bytes w16 (take 2 (drop at bytes))
front_two n bytes at within =
    two (take n bytes) at ∙ rw (get_or-take n bytes at 0 (omega arith), get_or-take n bytes (at + 1) 0 (omega arith)) (sym (two bytes at))

pub front_four : (n : ℕ) (bytes : List ℕ) (at : ℕ) → at + 4 ≤ n → from_le_bytes w32 (take 4 (drop at (take n bytes))) ≡ from_le_bytes w32 (take 4 (drop at bytes))
front_four n bytes at within =
    four (take n bytes) at
    ∙ rw (get_or-take n bytes at 0 (omega arith), get_or-take n bytes (at + 1) 0 (omega arith), get_or-take n bytes (at + 2) 0 (omega arith), get_or-take n bytes (at + 3) 0 (omega arith)) (sym (four bytes at))

module _ (s t : List ℕ) (same : SameHead s t) where
  same_two : (n at : ℕ) → at + 2 ≤ n → n ≤ 40 → from_le_bytes w16 (take 2 (drop at (take n t))) ≡ from_le_bytes w16 (take 2 (drop at (take n s)))
  same_two n at within short =
      front_two n t at within ∙ two t at ∙ rw (same at (omega arith), same (at + 1) (omega arith)) (sym (two s at)) ∙ sym (front_two n s at within)

  same_four : (n at : ℕ) → at + 4 ≤ n → n ≤ 40 → from_le_bytes w32 (take 4 (drop at (take n t))) ≡ from_le_bytes w32 (take 4 (drop at (take n s)))
  same_four n at within short =
      front_four n t at within ∙ four t at
      ∙ rw (same at (omega arith), same (at + 1) (omega arith), same (at + 2) (omega arith), same (at + 3) (omega arith)) (sym (four s at))
      ∙ sym (front_four n s at within)

  same_byte : (n at : ℕ) → at < n → n ≤ 40 → get_or (take n t) at 0 ≡ get_or (take n s) at 0
  same_byte n at within short = get_or-take n t at 0 within ∙ same at (omega arith) ∙ sym (get_or-take n s at 0 within)

pub head_decides : HeadDecides
unfolding HeadDecides header_test revision_fits descriptor_test length_test version_test facts_of
head_decides s t board same =
    record {
      header =
          rw (
            same_byte s t same 24 0 (omega arith) (omega arith),
            same_byte s t same 24 1 (omega arith) (omega arith),
            same_two s t same 24 12 (omega arith) (omega arith),
            same_two s t same 24 15 (omega arith) (omega arith),
            same_two s t same 24 17 (omega arith) (omega arith),
            same_byte s t same 24 23 (omega arith) (omega arith),
          )
          refl;
      count = same 1 (omega arith);
      flag = same 23 (omega arith);
      descriptor = rw (same_four s t same 40 28 (omega arith) (omega arith), same_four s t same 40 32 (omega arith) (omega arith)) refl;
      whole = λ size end. rw (same 23 (omega arith)) refl;
      version = rw (same_four s t same 40 36 (omega arith) (omega arith)) refl;
      facts = λ end.
          rw (
            same_byte s t same 40 23 (omega arith) (omega arith),
            same_four s t same 40 4 (omega arith) (omega arith),
            same_four s t same 40 36 (omega arith) (omega arith),
            same_byte s t same 40 1 (omega arith) (omega arith),
          )
          refl;
    }
