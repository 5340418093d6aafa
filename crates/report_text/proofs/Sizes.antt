-- The digits of a number, and how long texts are.
use Rattle.std.proofs.Common.{◌≡◌, ℕ, ◌+◌, ◌/◌, ◌%◌, ◌^◌, ◌<◌, ◌≤◌, [], ◌∷◌, ◌++◌, length, arith, ap, ◌∙◌}
use Rattle.std.specs.Fmt.{decimal}
use Rattle.std.proofs.lemmas.Fmt.{decimal_digit, decimal_step, length-decimal-le}
use Rattle.std.proofs.lemmas.List.{length-append}
use Rattle.otadata.specs.declared.states.State.{State}
use Rattle.otadata.specs.declared.states.State.TheVariants.{New, Pending, Valid, Invalid, Aborted, Undefined}
use Rattle.otadata.specs.State.{name_of}

pub one_digit : (n : ℕ) → n < 10 → decimal n ≡ (48 + n) ∷ []
one_digit n below = decimal_digit n below

pub one_digit_size : (n : ℕ) → n < 10 → length (decimal n) ≡ 1
one_digit_size n below = ap length (one_digit n below)

pub last_digit : (n : ℕ) → 10 ≤ n → n < 2 ^ 32 → decimal n ≡ decimal (n / 10) ++ (48 + n % 10) ∷ []
last_digit n at_least below = decimal_step n at_least (omega arith)

pub last_digit_size : (n : ℕ) → 10 ≤ n → n < 2 ^ 32 → length (decimal n) ≡ length (decimal (n / 10)) + 1
last_digit_size n at_least below = ap length (last_digit n at_least below) ∙ length-append (decimal (n / 10)) ((48 + n % 10) ∷ [])

pub ten_digits : (n : ℕ) → n < 2 ^ 32 → length (decimal n) ≤ 10
ten_digits n below = length-decimal-le 10 n (omega arith) (omega arith) (omega arith)

pub state_name : (state : State) → length (name_of state) ≤ 9
state_name New = omega arith
state_name Pending = omega arith
state_name Valid = omega arith
state_name Invalid = omega arith
state_name Aborted = omega arith
state_name Undefined = omega arith
