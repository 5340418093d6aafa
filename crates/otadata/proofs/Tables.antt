-- The check word by w bits at a time, each from a table: what holds after i of n turns.
use Rattle.std.proofs.Common.{◌≡◌, ℕ, suc, ◌+◌, ◌-◌, ◌*◌, ◌/◌, ◌%◌, ◌^◌, ◌<◌, ◌≤◌, sym, ap, ◌∙◌, arith}
use Rattle.std.proofs.Math.Nat.{suc-mul}
use Rattle.std.specs.Int.Bits.{bit_xor}
use Rattle.otadata.specs.CheckWord.{steps, after_bits, check_word_by_bits}
use Rattle.otadata.proofs.OneToOne.{steps-add, steps-lt}
use Rattle.otadata.proofs.ByBits.{feeds_shifts, shifts_by}

-- after i of n turns on w bits each: what is left takes the register r to where 32 steps take the sequence q
unfoldable pub Walked : (w n q i r : ℕ) → Type 0
Walked w n q i r = steps ((n - i) * w) r ≡ steps 32 q

pub walked_none : (w n q : ℕ) → n * w ≡ 32 → Walked w n q 0 q
unfolding Walked
walked_none w n q whole = ap (λ k. steps (k * w) q) (omega arith) ∙ ap (λ k. steps k q) whole

pub walked_more :
    (w n q i r e : ℕ) → i < n → e ≡ after_bits w 0 (r % 2 ^ w) → Walked w n q i r → Walked w n q (i + 1) (bit_xor (r / 2 ^ w) e)
unfolding Walked
walked_more w n q i r e below rule walked =
    let k = n - (i + 1) in
    let turns : n - i ≡ suc k = omega arith in
    let left : (n - i) * w ≡ w + k * w = ap (λ m. m * w) turns ∙ suc-mul k w ∙ omega arith in
    ap (λ x. steps (k * w) (bit_xor (r / 2 ^ w) x)) rule
    ∙ ap (steps (k * w)) (sym (shifts_by w r))
    ∙ sym (steps-add w (k * w) r)
    ∙ ap (λ m. steps m r) (sym left)
    ∙ walked

-- after all turns
walked_all : (w n q i r : ℕ) → n ≤ i → Walked w n q i r → r ≡ steps 32 q
unfolding Walked steps
walked_all w n q i r all walked =
    let none : n - i ≡ 0 = omega arith in
    let left : 0 * w ≡ 0 = omega arith in
    ap (λ k. steps k r) (sym left) ∙ ap (λ k. steps (k * w) r) (sym none) ∙ walked

pub walked_lt : (w n q i r : ℕ) → n ≤ i → q < 2 ^ 32 → Walked w n q i r → r < 2 ^ 32
walked_lt w n q i r all below walked = omega (arith, walked_all w n q i r all walked, steps-lt 32 q below)

pub walked_whole : (w n q i r : ℕ) → n ≤ i → q < 2 ^ 32 → Walked w n q i r → 0xFFFFFFFF - r ≡ check_word_by_bits q
walked_whole w n q i r all below walked = ap (λ x. 0xFFFFFFFF - x) (walked_all w n q i r all walked ∙ sym (feeds_shifts 32 q below))
