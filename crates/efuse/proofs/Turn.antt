-- A turn of raising, on a chip: some bit that counts is clear, so the lowest clear one counts, and setting it is right.
-- Assumes nothing.
use Rattle.std.proofs.Common.{◌≡◌, ℕ, ◌+◌, ◌-◌, ◌^◌, ◌<◌, min, arith}
use Rattle.std.specs.Int.Bits.{bit_or}
use Rattle.std.specs.Int.Count.{ones_in, count_trailing_zeros}
use Rattle.efuse.specs.declared.ChipId.{ChipId}
use Rattle.efuse.specs.Register.{width, raised}
use Rattle.efuse.proofs.Raising.{SomeClear, found, found_below, turn_fits, turn_counts, turn_same}
use Rattle.efuse.proofs.Widths.{width_within}

some_clear : (chip : ChipId) (r v : ℕ) → r < 2 ^ 32 → ones_in (width chip) r < min v (width chip) → SomeClear (width chip) 32 r
some_clear chip r v fits more = record { within = (width_within chip).1; fits = fits; some = omega arith }

pub shift_fits : (chip : ChipId) (r v : ℕ) → r < 2 ^ 32 → ones_in (width chip) r < min v (width chip) → count_trailing_zeros 32 (4294967295 - r) < 32
shift_fits chip r v fits more = found_below (some_clear chip r v fits more)

pub bit_fits : (chip : ChipId) (r v : ℕ) → r < 2 ^ 32 → ones_in (width chip) r < min v (width chip) → bit_or r (found 32 r) < 2 ^ 32
bit_fits chip r v fits more = turn_fits (some_clear chip r v fits more)

pub bit_counts : (chip : ChipId) (r v : ℕ) → r < 2 ^ 32 → ones_in (width chip) r < min v (width chip) → ones_in (width chip) (bit_or r (found 32 r)) ≡ ones_in (width chip) r + 1
bit_counts chip r v fits more = turn_counts (some_clear chip r v fits more)

pub bit_right : (chip : ChipId) (r v : ℕ) → r < 2 ^ 32 → ones_in (width chip) r < min v (width chip) → raised (width chip) (bit_or r (found 32 r)) v ≡ raised (width chip) r v
bit_right chip r v fits more = turn_same (some_clear chip r v fits more) v (omega arith)
