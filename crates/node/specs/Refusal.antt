-- The refusals of the calls on a node: their numbers, and one test after another.
use Rattle.std.specs.Prelude.{ℕ, codes, List, Bool, Result, Ok, Err, if◌then◌else◌}
use Rattle.node.specs.declared.refusal.Refusal.{Refusal}
use Rattle.node.specs.declared.refusal.Refusal.TheVariants.{BadList, WrongSize, BadSettings, NoSuchSlot, BadImage, BelowEfuse, SequenceSpent, NotNamed, NoFallback, NothingBootable, ActivePending}

abbrev pub number_of : Refusal → ℕ
number_of BadList = 1
number_of WrongSize = 2
number_of BadSettings = 3
number_of NoSuchSlot = 4
number_of (BadImage image) = 5
number_of BelowEfuse = 6
number_of SequenceSpent = 7
number_of NotNamed = 8
number_of NoFallback = 9
number_of NothingBootable = 10
number_of ActivePending = 11

-- the name that is printed
abbrev pub name_of : Refusal → List ℕ
name_of BadList = codes "bad partition list"
name_of WrongSize = codes "wrong size"
name_of BadSettings = codes "settings that contradict each other"
name_of NoSuchSlot = codes "no such slot"
name_of (BadImage image) = codes "image refused"
name_of BelowEfuse = codes "version below the eFuse version"
name_of SequenceSpent = codes "no sequence left"
name_of NotNamed = codes "slot not named"
name_of NoFallback = codes "no app to fall back to"
name_of NothingBootable = codes "nothing bootable"
name_of ActivePending = codes "active record pending"

-- ---- one test after another: the first refusal stands

infixl 10 ◌>>=◌
abbrev pub ◌>>=◌ : {A B : Type 0} → Result A Refusal → (A → Result B Refusal) → Result B Refusal
(Ok x) >>= f = f x
(Err e) >>= f = Err e

infixl 10 ◌>>◌
abbrev pub ◌>>◌ : {A B : Type 0} → Result A Refusal → Result B Refusal → Result B Refusal
(Ok x) >> next = next
(Err e) >> next = Err e

abbrev pub refuse_if : Bool → Refusal → Result (Unit {0}) Refusal
refuse_if wrong refusal = if wrong then Err refusal else Ok tt
