-- The check word by single bits: the register starts at 0, and takes the 32 bits of the sequence, the lowest first.
use Rattle.std.proofs.Common.{◌≡◌, ℕ, zero, suc, ◌-◌, ◌*◌, ◌/◌, ◌%◌, ◌^◌, ◌<◌, List, get_or, map, sym, ap, ◌∙◌, arith, mod-lt, div-add-mod'}
use Rattle.std.proofs.Math.Nat.{two-pow-succ}
use Rattle.std.proofs.lemmas.Nat.{pow_pos}
use Rattle.std.proofs.lemmas.List.FromFn.{get_or-map-range_with_len}
use Rattle.std.specs.List.{range_with_len}
use Rattle.std.specs.Int.Bits.{bit_xor, xor_assoc, xor_comm, xor_zero_l, xor_zero_r, xor_shifted}
use Rattle.otadata.specs.CheckWord.{step, steps, check_word, after_bits, check_word_by_bits}
use Rattle.otadata.proofs.Register.{step-xor_above, steps-xor_above}
use Rattle.otadata.proofs.OneToOne.{register_is, steps-add}

-- from any register
pub after_bits-steps : (n r x : ℕ) → x < 2 ^ n → after_bits n r x ≡ steps n (bit_xor r x)
unfolding after_bits steps
after_bits-steps zero r x below = let none : x ≡ 0 = omega arith in sym (ap (bit_xor r) none ∙ xor_zero_r r)
after_bits-steps (suc n) r x below =
    let split : bit_xor (x % 2) (x / 2 * 2 ^ 1) ≡ x = xor_comm (x % 2) (x / 2 * 2 ^ 1) ∙ xor_shifted (x / 2) 1 (x % 2) (omega arith) ∙ omega arith in
    after_bits-steps n (step (bit_xor r (x % 2))) (x / 2) (omega (arith, two-pow-succ n))
    ∙ ap (steps n) (sym (step-xor_above (bit_xor r (x % 2)) (x / 2)))
    ∙ ap (λ y. steps n (step y)) (xor_assoc r (x % 2) (x / 2 * 2 ^ 1) ∙ ap (bit_xor r) split)

-- feeding n bits to a register of 0 is n steps of the register that holds them
pub feeds_shifts : (n x : ℕ) → x < 2 ^ n → after_bits n 0 x ≡ steps n x
feeds_shifts n x below = after_bits-steps n 0 x below ∙ ap (steps n) (xor_zero_l x)

-- w steps: the low w bits of the register decide what comes in, and the others move down
pub shifts_by : (w r : ℕ) → steps w r ≡ bit_xor (r / 2 ^ w) (after_bits w 0 (r % 2 ^ w))
shifts_by w r =
    let low : r % 2 ^ w < 2 ^ w = mod-lt r (pow_pos w) in
    ap (steps w) (sym (xor_comm (r % 2 ^ w) (r / 2 ^ w * 2 ^ w) ∙ xor_shifted (r / 2 ^ w) w (r % 2 ^ w) low ∙ div-add-mod' r (2 ^ w)))
    ∙ steps-xor_above w (r % 2 ^ w) (r / 2 ^ w)
    ∙ xor_comm (steps w (r % 2 ^ w)) (r / 2 ^ w)
    ∙ ap (bit_xor (r / 2 ^ w)) (sym (feeds_shifts w (r % 2 ^ w) low))

-- the table for w bits: entry k is the register 0 after the w bits of k
unfoldable pub table_of : ℕ → List ℕ
table_of w = map (after_bits w 0) (range_with_len 0 (2 ^ w))

pub entry_of : (w k : ℕ) → k < 2 ^ w → get_or (table_of w) k 0 ≡ after_bits w 0 k
unfolding table_of
entry_of w k below = get_or-map-range_with_len (after_bits w 0) 0 (2 ^ w) k k 0 below (omega arith)

pub by_bits : (q : ℕ) → q < 2 ^ 32 → check_word q ≡ check_word_by_bits q
unfolding check_word
by_bits q below =
    ap (λ r. 0xFFFFFFFF - r) (sym (register_is q below) ∙ sym (after_bits-steps 32 0 q below ∙ ap (steps 32) (xor_zero_l q)))

-- ---- by the table: four times eight steps

pub four_turns : (q : ℕ) → q < 2 ^ 32 → 0xFFFFFFFF - steps 8 (steps 8 (steps 8 (steps 8 q))) ≡ check_word q
unfolding check_word
four_turns q below =
    let whole : steps 32 q ≡ steps 8 (steps 8 (steps 8 (steps 8 q))) = steps-add 8 24 q ∙ steps-add 8 16 (steps 8 q) ∙ steps-add 8 8 (steps 8 (steps 8 q)) in
    ap (λ r. 0xFFFFFFFF - r) (sym whole ∙ register_is q below)

pub four_turns_by_bits : (q : ℕ) → q < 2 ^ 32 → 0xFFFFFFFF - steps 8 (steps 8 (steps 8 (steps 8 q))) ≡ check_word_by_bits q
four_turns_by_bits q below = four_turns q below ∙ by_bits q below
