-- A cut rewrite byte by byte: what is erased, kept and programmed after k stores.
use Rattle.std.proofs.Common.{◌≡◌, ◌≢◌, ℕ, zero, suc, ◌+◌, ◌-◌, ◌<◌, ◌≤◌, List, length, get_or, ap, ◌∙◌, arith, take, length-take-le, get_or-take}
use Rattle.std.proofs.lemmas.Bool.Decides.{nat_tests}
use Rattle.std.proofs.lemmas.Grind.{common_steps, same_number_lists}
use Rattle.sectors.specs.Sector.{record_in}
use Rattle.sectors.specs.Rewrite.{stored, cut}
use Rattle.sectors.proofs.Stores.{cut_none, cut-suc, length-cut}

-- a store of the erasing half, and one of the programming half, byte by byte
erasing : (rec s : List ℕ) (k j : ℕ) → k < 4096 → k < length s → get_or (stored rec k s) k 0 ≡ 255
unfolding stored
erasing rec s k j low within = grind (arith, nat_tests, common_steps)

stored_other : (rec s : List ℕ) (k j : ℕ) → (k < 4096 → j ≢ k) → (4096 ≤ k → j ≢ 31 - (k - 4096)) → get_or (stored rec k s) j 0 ≡ get_or s j 0
unfolding stored
stored_other rec s k j not_erased not_programmed = grind (arith, nat_tests, common_steps)

programming : (rec s : List ℕ) (k : ℕ) → 4096 ≤ k → 4096 ≤ length s → get_or (stored rec k s) (31 - (k - 4096)) 0 ≡ get_or rec (31 - (k - 4096)) 0
unfolding stored
programming rec s k high within = grind (arith, nat_tests, common_steps)

pub record_in-sized : (s : List ℕ) → length s ≡ 4096 → record_in s ≡ take 32 s
unfolding record_in
record_in-sized s size = simp size

pub record_in-byte : (s : List ℕ) → length s ≡ 4096 → (j : ℕ) → j < 32 → get_or (record_in s) j 0 ≡ get_or s j 0
record_in-byte s size j below = rw (record_in-sized s size) (get_or-take 32 s j 0 below)

pub length-record_in : (s : List ℕ) → length s ≡ 4096 → length (record_in s) ≡ 32
length-record_in s size = rw (record_in-sized s size) (length-take-le 32 s (omega arith))

pub record_is : (s g : List ℕ) → length s ≡ 4096 → length g ≡ 32 → ((j : ℕ) → j < 32 → get_or s j 0 ≡ get_or g j 0) → record_in s ≡ g
record_is s g size size_g same =
    same_number_lists (record_in s) g (omega (arith, length-record_in s size)) (λ j below.
    let in_record : j < 32 = omega (arith, length-record_in s size) in
    record_in-byte s size j in_record ∙ same j in_record)

module _ (rec s : List ℕ) (size : length s ≡ 4096) where
  -- cut in the erasing half: the bytes below k are erased, the others are kept
  pub erased : (k j : ℕ) → k ≤ 4096 → j < k → get_or (cut rec k s) j 0 ≡ 255
  erased zero j upto below = absurd (omega arith)
  erased (suc k) j upto below = grind (arith, cut-suc s rec k, length-cut s rec k, erasing rec (cut rec k s) k, stored_other rec (cut rec k s) k j, erased k j)

  pub kept : (k j : ℕ) → k ≤ 4096 → k ≤ j → get_or (cut rec k s) j 0 ≡ get_or s j 0
  kept zero j upto from = ap (λ (t : List ℕ). get_or t j 0) (cut_none s rec)
  kept (suc k) j upto from = grind (arith, cut-suc s rec k, stored_other rec (cut rec k s) k j, kept k j)

  -- cut after i stores of the programming half: the last i bytes of the record are programmed, those before them are erased
  pub programmed : (i j : ℕ) → i ≤ 32 → j < 32 → 32 ≤ j + i → get_or (cut rec (4096 + i) s) j 0 ≡ get_or rec j 0
  programmed zero j upto within from = absurd (omega arith)
  programmed (suc i) j upto within from =
      let next : 4096 + suc i ≡ suc (4096 + i) = omega arith in
      grind (arith, next, cut-suc s rec (4096 + i), length-cut s rec (4096 + i), programming rec (cut rec (4096 + i) s) (4096 + i), stored_other rec (cut rec (4096 + i) s) (4096 + i) j, programmed i j)

  pub unprogrammed : (i j : ℕ) → i ≤ 32 → j + i < 32 → get_or (cut rec (4096 + i) s) j 0 ≡ 255
  unprogrammed zero j upto below = erased 4096 j (omega arith) (omega arith)
  unprogrammed (suc i) j upto below =
      let next : 4096 + suc i ≡ suc (4096 + i) = omega arith in
      grind (arith, next, cut-suc s rec (4096 + i), stored_other rec (cut rec (4096 + i) s) (4096 + i) j, unprogrammed i j)

  -- the bytes after the record stay erased
  pub rest_erased : (i j : ℕ) → i ≤ 32 → 32 ≤ j → j < 4096 → get_or (cut rec (4096 + i) s) j 0 ≡ 255
  rest_erased zero j upto from below = erased 4096 j (omega arith) (omega arith)
  rest_erased (suc i) j upto from below =
      let next : 4096 + suc i ≡ suc (4096 + i) = omega arith in
      grind (arith, next, cut-suc s rec (4096 + i), stored_other rec (cut rec (4096 + i) s) (4096 + i) j, rest_erased i j)

  -- a finished rewrite leaves its record
  pub finished_record : length rec ≡ 32 → record_in (cut rec 4128 s) ≡ rec
  finished_record size_rec =
      record_is (cut rec 4128 s) rec (length-cut s rec 4128 ∙ size) size_rec (λ j below. programmed 32 j (omega arith) below (omega arith))
