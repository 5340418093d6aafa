-- No two sequences have the same check word.
use Rattle.std.proofs.Common.{◌≡◌, ◌⊎◌, ℕ, zero, suc, ◌+◌, ◌*◌, ◌/◌, ◌%◌, ◌^◌, ◌<◌, ◌≤◌, sym, ap, ◌∙◌, arith}
use Rattle.std.specs.List.{fold}
use Rattle.std.specs.Int.{w32, to_le_bytes}
use Rattle.std.specs.Int.Bits.{bit_xor, xor_lt, xor_shr, xor_assoc, xor_comm, xor_self, xor_zero_l, xor_zero_r, xor_shifted}
use Rattle.otadata.specs.CheckWord.{POLYNOMIAL, step, steps, after_byte, check_word, OneToOne}
use Rattle.otadata.proofs.Register.{steps-xor_above}

step-even : (r : ℕ) → r % 2 ≡ 0 → step r ≡ r / 2
unfolding step
step-even r even = simp even

step-odd : (r : ℕ) → r % 2 ≡ 1 → step r ≡ bit_xor (r / 2) POLYNOMIAL
unfolding step
step-odd r odd = simp odd

even_or_odd : (r : ℕ) → (r % 2 ≡ 0) ⊎ (r % 2 ≡ 1)
even_or_odd r = grind arith

step-lt : (r : ℕ) → r < 2 ^ 32 → step r < 2 ^ 32
step-lt r below = grind (arith, even_or_odd r, step-even r, step-odd r, xor_lt 32 (r / 2) POLYNOMIAL)

-- the polynomial has bit 31, so a step that brings it in ends at 2 ^ 31 or above, and any other below
step_high : (r : ℕ) → r < 2 ^ 32 → r % 2 ≡ 1 → 2 ^ 31 ≤ step r
step_high r below odd =
    let top : bit_xor (r / 2) POLYNOMIAL / 2 ^ 31 ≡ bit_xor (r / 2 / 2 ^ 31) 1 = xor_shr (r / 2) POLYNOMIAL 31 in
    let low : r / 2 / 2 ^ 31 ≡ 0 = omega arith in
    let one : bit_xor (r / 2) POLYNOMIAL / 2 ^ 31 ≡ 1 = top ∙ ap (λ x. bit_xor x 1) low in
    omega (arith, step-odd r odd)

xor_cancel : (a b c : ℕ) → bit_xor a c ≡ bit_xor b c → a ≡ b
xor_cancel a b c same = sym (back a) ∙ ap (λ x. bit_xor x c) same ∙ back b
  where
    back : (x : ℕ) → bit_xor (bit_xor x c) c ≡ x
    back x = xor_assoc x c c ∙ ap (bit_xor x) (xor_self c) ∙ xor_zero_r x

step_one_to_one : (a b : ℕ) → a < 2 ^ 32 → b < 2 ^ 32 → step a ≡ step b → a ≡ b
step_one_to_one a b below_a below_b same =
    grind (
      arith,
      even_or_odd a,
      even_or_odd b,
      step-even a,
      step-even b,
      step-odd a,
      step-odd b,
      step_high a,
      step_high b,
      xor_cancel (a / 2) (b / 2) POLYNOMIAL,
    )

steps_one_to_one : (n a b : ℕ) → a < 2 ^ 32 → b < 2 ^ 32 → steps n a ≡ steps n b → a ≡ b
unfolding steps
steps_one_to_one zero a b below_a below_b same = same
steps_one_to_one (suc n) a b below_a below_b same =
    step_one_to_one a b below_a below_b (steps_one_to_one n (step a) (step b) (step-lt a below_a) (step-lt b below_b) same)

pub steps-lt : (n r : ℕ) → r < 2 ^ 32 → steps n r < 2 ^ 32
unfolding steps
steps-lt zero r below = below
steps-lt (suc n) r below = steps-lt n (step r) (step-lt r below)

pub steps-add : (m n r : ℕ) → steps (m + n) r ≡ steps n (steps m r)
unfolding steps
steps-add zero n r = let none : 0 + n ≡ n = omega arith in ap (λ k. steps k r) none
steps-add (suc m) n r = let next : suc m + n ≡ suc (m + n) = omega arith in ap (λ k. steps k r) next ∙ steps-add m n (step r)

-- a word goes in as its low byte, and the rest then
by_byte : (r q : ℕ) → steps 8 (bit_xor r q) ≡ bit_xor (after_byte r (q % 256)) (q / 256)
unfolding after_byte
by_byte r q =
    let split : bit_xor (q % 256) (q / 256 * 2 ^ 8) ≡ q = xor_comm (q % 256) (q / 256 * 2 ^ 8) ∙ xor_shifted (q / 256) 8 (q % 256) (omega arith) ∙ omega arith in
    ap (steps 8) (sym (xor_assoc r (q % 256) (q / 256 * 2 ^ 8) ∙ ap (bit_xor r) split)) ∙ steps-xor_above 8 (bit_xor r (q % 256)) (q / 256)

turn : (n r q : ℕ) → steps (8 + n) (bit_xor r q) ≡ steps n (bit_xor (after_byte r (q % 256)) (q / 256))
turn n r q = steps-add 8 n (bit_xor r q) ∙ ap (steps n) (by_byte r q)

-- the register after the four bytes is 32 steps from the sequence
pub register_is : (q : ℕ) → q < 2 ^ 32 → steps 32 q ≡ fold after_byte 0 (to_le_bytes w32 q)
unfolding steps
register_is q below =
    let r1 = after_byte 0 (q % 256) in
    let r2 = after_byte r1 (q / 256 % 256) in
    let r3 = after_byte r2 (q / 256 / 256 % 256) in
    let r4 = after_byte r3 (q / 256 / 256 / 256 % 256) in
    let done : q / 256 / 256 / 256 / 256 ≡ 0 = omega arith in
    let third : q / 256 / 256 ≡ q / 65536 = omega arith in
    let fourth : q / 65536 / 256 ≡ q / 16777216 = omega arith in
    ap (steps 32) (sym (xor_zero_l q))
    ∙ turn 24 0 q
    ∙ turn 16 r1 (q / 256)
    ∙ turn 8 r2 (q / 256 / 256)
    ∙ turn 0 r3 (q / 256 / 256 / 256)
    ∙ ap (bit_xor r4) done
    ∙ xor_zero_r r4
    ∙ simp (third, fourth)

pub check_word_one_to_one : (p q : ℕ) → p < 2 ^ 32 → q < 2 ^ 32 → check_word p ≡ check_word q → p ≡ q
unfolding check_word
check_word_one_to_one p q below_p below_q same =
    steps_one_to_one 32 p q below_p below_q
    (omega (arith, register_is p below_p, register_is q below_q, steps-lt 32 p below_p, steps-lt 32 q below_q))

pub one_to_one : OneToOne
unfolding OneToOne
one_to_one = check_word_one_to_one
