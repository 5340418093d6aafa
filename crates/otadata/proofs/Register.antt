-- The register of the check word: what its table holds, and eight steps by it.
use Rattle.std.proofs.Common.{◌≡◌, ℕ, zero, suc, ◌*◌, ◌/◌, ◌%◌, ◌^◌, ◌<◌, ◌==◌, true, false, if◌then◌else◌, List, slice_index, map, refl, sym, ap, ◌∙◌, arith}
use Rattle.std.proofs.Math.Nat.{two-pow-succ}
use Rattle.std.specs.List.{range_with_len}
use Rattle.std.specs.Int.Bits.{bit_and, and_mask, bit_xor, xor_mod, xor_shr, xor_assoc, xor_comm, xor_zero_r, xor_shifted}
use Rattle.std.proofs.lemmas.List.FromFn.{get_or-map-range_with_len}
use Rattle.otadata.specs.declared.check.TheConstants.{TABLE}
use Rattle.otadata.specs.CheckWord.{POLYNOMIAL, step, steps}

-- computed, all 256 at once
table_is : TABLE ≡ map (steps 8) (range_with_len 0 256)
unfolding steps step
table_is = refl

pub entry_is : (k : ℕ) → k < 256 → slice_index TABLE k ≡ steps 8 k
entry_is k below = ap (λ (xs : List ℕ). slice_index xs k) table_is ∙ get_or-map-range_with_len (steps 8) 0 256 k k 0 below (omega arith)

pub xor_swap : (a b c : ℕ) → bit_xor (bit_xor a b) c ≡ bit_xor (bit_xor a c) b
xor_swap a b c = xor_assoc a b c ∙ ap (bit_xor a) (xor_comm b c) ∙ sym (xor_assoc a c b)

-- the bits above the lowest move down
pub step-xor_above : (r h : ℕ) → step (bit_xor r (h * 2)) ≡ bit_xor (step r) h
unfolding step
step-xor_above r h =
    let low : bit_xor r (h * 2) % 2 ≡ r % 2 = xor_mod r (h * 2) 1 ∙ ap (bit_xor (r % 2)) (omega arith) ∙ xor_zero_r (r % 2) in
    let rest : bit_xor r (h * 2) / 2 ≡ bit_xor (r / 2) h = xor_shr r (h * 2) 1 ∙ ap (bit_xor (r / 2)) (omega arith) in
    rw (low, rest) (elim (r % 2 == 0) as (λ b. (if b then bit_xor (r / 2) h else bit_xor (bit_xor (r / 2) h) POLYNOMIAL) ≡ bit_xor (if b then r / 2 else bit_xor (r / 2) POLYNOMIAL) h) [
      | true ↦ refl
      | false ↦ xor_swap (r / 2) h POLYNOMIAL
    ])

-- the bits above the lowest n move down by n steps
pub steps-xor_above : (n r h : ℕ) → steps n (bit_xor r (h * 2 ^ n)) ≡ bit_xor (steps n r) h
unfolding steps
steps-xor_above zero r h = ap (bit_xor r) (omega arith)
steps-xor_above (suc n) r h =
    let half : h * 2 ^ suc n ≡ h * 2 ^ n * 2 = ap (λ x. h * x) (two-pow-succ n) ∙ omega arith in
    ap (λ x. steps n (step (bit_xor r x))) half ∙ ap (steps n) (step-xor_above r (h * 2 ^ n)) ∙ steps-xor_above n (step r) h

-- eight steps are read from the table at the low byte; the bits above it move down
pub by_table : (r : ℕ) → bit_xor (r / 256) (slice_index TABLE (bit_and r 255)) ≡ steps 8 r
by_table r =
    let low = r % 256 in
    let split : r ≡ bit_xor low (r / 256 * 2 ^ 8) = sym (xor_comm low (r / 256 * 2 ^ 8) ∙ xor_shifted (r / 256) 8 low (omega arith) ∙ omega arith) in
    ap (λ x. bit_xor (r / 256) (slice_index TABLE x)) (and_mask r 8)
    ∙ ap (bit_xor (r / 256)) (entry_is low (omega arith))
    ∙ xor_comm (r / 256) (steps 8 low)
    ∙ sym (ap (steps 8) split ∙ steps-xor_above 8 low (r / 256))
