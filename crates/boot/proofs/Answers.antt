-- The answers, case by case.
use Rattle.std.proofs.Common.{◌≡◌, ℕ, List, ◌∷◌, ◌++◌, slice_index, Result, Ok, Err, refl}
use Rattle.otadata.specs.Number.{reply_number}
use Rattle.partitions.specs.declared.list.App.{App}
use Rattle.partitions.specs.declared.list.App.TheVariants.{Factory, OtaSlot}
use Rattle.node.specs.declared.Settings.{Settings}
use Rattle.node.specs.declared.refusal.Refusal.{Refusal}
use Rattle.node.specs.Refusal.{number_of}
use Rattle.boot.specs.declared.Start.{Start}
use Rattle.boot.specs.Answer.{AnswerLaw, app_values, answer_of, register_of}

number : (settings : Settings) (reply : Result Start Refusal) → (answer_of settings reply).number ≡ reply_number number_of reply
number settings (Ok start) = refl
number settings (Err refusal) = refl

-- an app has two values
after_app : (app : App) (sector register : ℕ) (others : List ℕ) → slice_index (app_values app ++ (sector ∷ register ∷ others)) 3 ≡ register
after_app Factory sector register others = refl
after_app (OtaSlot slot) sector register others = refl

register : (settings : Settings) (reply : Result Start Refusal) → slice_index (answer_of settings reply).values 3 ≡ register_of settings reply
register settings (Ok start) = after_app start.app _ start.register _
register settings (Err refusal) = refl

pub answer_law : AnswerLaw
answer_law =
    record {
      through_0 = λ settings readings slot facts. refl;
      through_1 = λ settings readings slot facts. refl;
      factory = λ settings readings facts. refl;
      found = λ settings readings slot facts. refl;
      nothing = λ settings readings. refl;
      refused = λ settings refusal. refl;
      number = number;
      register = register;
    }
