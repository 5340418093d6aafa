-- The check word of a sequence.
use Rattle.std.specs.Prelude.{ℕ, zero, suc, ◌-◌, ◌/◌, ◌%◌, ◌^◌, ◌<◌, ◌≡◌, ◌==◌, bit_xor, fold, if◌then◌else◌}
use Rattle.std.specs.Int.{w32, to_le_bytes}

-- reflected: the low bit stands for the highest power
abbrev pub POLYNOMIAL : ℕ
POLYNOMIAL = 0xEDB88320

-- one step of the register: its low bit goes out, and where that was 1 the polynomial comes in
unfoldable pub step : ℕ → ℕ
step register = if register % 2 == 0 then register / 2 else bit_xor (register / 2) POLYNOMIAL

unfoldable pub steps : ℕ → ℕ → ℕ
steps zero register = register
steps (suc n) register = steps n (step register)

-- the register after a byte, low bit first
unfoldable pub after_byte : ℕ → ℕ → ℕ
after_byte register byte = steps 8 (bit_xor register byte)

-- the check word covers the four bytes of the sequence, from a register of 0, and is complemented
unfoldable pub check_word : ℕ → ℕ
check_word sequence = 0xFFFFFFFF - fold after_byte 0 (to_le_bytes w32 sequence)

-- ---- the same by single bits

-- the register after the lowest n bits of a number, low bit first
unfoldable pub after_bits : ℕ → ℕ → ℕ → ℕ
after_bits zero register bits = register
after_bits (suc n) register bits = after_bits n (step (bit_xor register (bits % 2))) (bits / 2)

abbrev pub check_word_by_bits : ℕ → ℕ
check_word_by_bits sequence = 0xFFFFFFFF - after_bits 32 0 sequence

-- ---- the law

-- no two sequences have the same check word
unfoldable pub OneToOne : Type 0
OneToOne = (p q : ℕ) → p < 2 ^ 32 → q < 2 ^ 32 → check_word p ≡ check_word q → p ≡ q
