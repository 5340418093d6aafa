-- A refused call that may raise the register: why, and the register as it was given.
use Rattle.std.specs.Prelude.{ℕ, Result, Ok, Err}
use Rattle.node.specs.declared.Settings.{Settings}
use Rattle.node.specs.declared.refusal.Refusal.{Refusal}
use Rattle.node.specs.declared.refusal.Refused.{Refused}
use Rattle.node.specs.Refusal.{number_of}

-- the number is that of the refusal
abbrev pub number_of_refused : Refused → ℕ
number_of_refused refused = number_of refused.refusal

-- a refusal returns the register as it was given
abbrev pub keeping_register : {T : Type 0} → Settings → Result T Refusal → Result T Refused
keeping_register settings (Ok done) = Ok done
keeping_register settings (Err refusal) = Err (record { refusal = refusal; register = settings.efuse })
