-- The law of the answers.
use Rattle.std.proofs.Common.{◌≡◌, [], ◌∷◌, slice_index, Result, Ok, Err, refl}
use Rattle.otadata.specs.declared.records.Slot.{Slot}
use Rattle.otadata.specs.declared.states.State.{State}
use Rattle.otadata.specs.Number.{reply_number}
use Rattle.app_image.specs.declared.refusal.ImageRefusal.{ImageRefusal}
use Rattle.node.specs.declared.Settings.{Settings}
use Rattle.node.specs.declared.refusal.Refusal.{Refusal}
use Rattle.node.specs.declared.refusal.Refusal.TheVariants.{BadList, WrongSize, BadSettings, NoSuchSlot, BadImage, BelowEfuse, SequenceSpent, NotNamed, NoFallback, NothingBootable, ActivePending}
use Rattle.node.specs.Refusal.{number_of}
use Rattle.update.specs.declared.Completion.{Completion}
use Rattle.update.specs.Answer.{answer_of, invalid_answer, query_answer, next_answer, register_of, AnswerLaw}

number_of_call : (settings : Settings) (reply : Result Completion Refusal) → (answer_of settings reply).number ≡ reply_number number_of reply
number_of_call settings (Ok done) = refl
number_of_call settings (Err refusal) = refl

number_of_mark_invalid : (settings : Settings) (reply : Result (Unit {0}) Refusal) → (invalid_answer settings reply).number ≡ reply_number number_of reply
number_of_mark_invalid settings (Ok done) = refl
number_of_mark_invalid settings (Err refusal) = refl

number_of_query : (reply : Result State Refusal) → (query_answer reply).number ≡ reply_number number_of reply
number_of_query (Ok state) = refl
number_of_query (Err refusal) = refl

number_of_next_slot : (reply : Result Slot Refusal) → (next_answer reply).number ≡ reply_number number_of reply
number_of_next_slot (Ok slot) = refl
number_of_next_slot (Err refusal) = refl

register_first : (settings : Settings) (reply : Result Completion Refusal) → slice_index (answer_of settings reply).values 0 ≡ register_of settings reply
register_first settings (Ok done) = refl
register_first settings (Err refusal) = refl

register_given : (settings : Settings) (reply : Result (Unit {0}) Refusal) → slice_index (invalid_answer settings reply).values 0 ≡ settings.efuse
register_given settings (Ok done) = refl
register_given settings (Err refusal) = refl

only_the_register : (settings : Settings) (reply : Result (Unit {0}) Refusal) → (invalid_answer settings reply).values ≡ settings.efuse ∷ []
only_the_register settings (Ok done) = refl
only_the_register settings (Err refusal) = refl

of_no_image : (settings : Settings) (refusal : Refusal) → ((image : ImageRefusal) → refusal ≡ BadImage image → ⊥)
    → (answer_of settings (Err refusal)).values ≡ settings.efuse ∷ 0 ∷ 0 ∷ 0 ∷ 0 ∷ []
of_no_image settings BadList not = refl
of_no_image settings WrongSize not = refl
of_no_image settings BadSettings not = refl
of_no_image settings NoSuchSlot not = refl
of_no_image settings (BadImage image) not = absurd (not image refl)
of_no_image settings BelowEfuse not = refl
of_no_image settings SequenceSpent not = refl
of_no_image settings NotNamed not = refl
of_no_image settings NoFallback not = refl
of_no_image settings NothingBootable not = refl
of_no_image settings ActivePending not = refl

pub answer_law : AnswerLaw
unfolding AnswerLaw
answer_law = (
  record { of_call = number_of_call; of_mark_invalid = number_of_mark_invalid; of_query = number_of_query; of_next_slot = number_of_next_slot },
  record {
    register = register_first;
    invalid_register = register_given;
    image = λ settings image. refl;
    others = of_no_image;
    refused = λ settings refusal. refl;
    done = λ settings done. refl;
    invalid = only_the_register;
    state = λ state. refl;
    no_state = λ refusal. refl;
    slot = λ slot. refl;
    no_slot = λ refusal. refl;
  },
)
