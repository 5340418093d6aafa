-- The numbers and the values of the replies: the number is 0 where a call is done, and else that of its refusal.
use Rattle.std.specs.Prelude.{ℕ, ◌≡◌, [], ◌∷◌, drop, slice_index, Result, Ok, Err}
use Rattle.otadata.specs.declared.records.Slot.{Slot}
use Rattle.otadata.specs.declared.states.State.{State}
use Rattle.otadata.specs.State.{word_of}
use Rattle.otadata.specs.Answer.{Answer}
use Rattle.otadata.specs.Number.{reply_number}
use Rattle.app_image.specs.declared.refusal.ImageRefusal.{ImageRefusal}
use Rattle.app_image.specs.Refusal.{number_of as image_number, place_of}
use Rattle.node.specs.declared.Settings.{Settings}
use Rattle.node.specs.declared.refusal.Refusal.{Refusal}
use Rattle.node.specs.declared.refusal.Refusal.TheVariants.{BadImage}
use Rattle.node.specs.declared.refusal.Refused.{Refused}
use Rattle.node.specs.Refusal.{number_of}
use Rattle.node.specs.Refused.{number_of_refused, keeping_register}
use Rattle.update.specs.declared.Completion.{Completion}
use Rattle.update.specs.Invalid.{giving_register}

-- the register after a set-boot or a mark-valid; a refusal returns it as given
abbrev pub register_in : Result Completion Refused → ℕ
register_in (Ok done) = done.register
register_in (Err refused) = refused.register

abbrev pub register_of : Settings → Result Completion Refusal → ℕ
register_of settings reply = register_in (keeping_register settings reply)

-- the number and the place of the image's own refusal, zero of any other
abbrev pub image_of : Refusal → ℕ × ℕ
image_of (BadImage image) = (image_number image, place_of image)
image_of _ = (0, 0)

-- of set-boot and mark-valid: the register, then the image's number and place of a refusal with 5, then the length and the entry
-- address of the image where done
abbrev pub answer_to : Result Completion Refused → Answer
answer_to (Ok done) = record { number = 0; values = done.register ∷ 0 ∷ 0 ∷ done.facts.length ∷ done.facts.entry ∷ [] }
answer_to (Err refused) =
    record {
      number = number_of_refused refused;
      values = refused.register ∷ (image_of refused.refusal).0 ∷ (image_of refused.refusal).1 ∷ 0 ∷ 0 ∷ [];
    }

abbrev pub answer_of : Settings → Result Completion Refusal → Answer
answer_of settings reply = answer_to (keeping_register settings reply)

-- the register after a mark-invalid
abbrev pub register_given : Result ℕ Refused → ℕ
register_given (Ok register) = register
register_given (Err refused) = refused.register

-- of mark-invalid: the register
abbrev pub invalid_answer_to : Result ℕ Refused → Answer
invalid_answer_to (Ok register) = record { number = 0; values = register ∷ [] }
invalid_answer_to (Err refused) = record { number = number_of_refused refused; values = refused.register ∷ [] }

abbrev pub invalid_answer : Settings → Result (Unit {0}) Refusal → Answer
invalid_answer settings reply = invalid_answer_to (giving_register settings reply)

-- of the state query: the word of the state
abbrev pub query_answer : Result State Refusal → Answer
query_answer (Ok state) = record { number = 0; values = word_of state ∷ [] }
query_answer (Err refusal) = record { number = number_of refusal; values = [] }

-- of the next update slot: the slot
abbrev pub next_answer : Result Slot Refusal → Answer
next_answer (Ok slot) = record { number = 0; values = slot.0 ∷ [] }
next_answer (Err refusal) = record { number = number_of refusal; values = [] }

-- ---- the law of the answers

-- the number of every reply
pub record Numbers : Type 0 where
  pub of_call : (settings : Settings) (reply : Result Completion Refusal) → (answer_of settings reply).number ≡ reply_number number_of reply
  pub of_mark_invalid : (settings : Settings) (reply : Result (Unit {0}) Refusal) → (invalid_answer settings reply).number ≡ reply_number number_of reply
  pub of_query : (reply : Result State Refusal) → (query_answer reply).number ≡ reply_number number_of reply
  pub of_next_slot : (reply : Result Slot Refusal) → (next_answer reply).number ≡ reply_number number_of reply

-- the values of every reply, the whole lists: the register comes first, done or refused; a refusal with 5 has the image's number, then
-- its place, every other has zero for both; every refusal has zero for length and entry; a call that is done has no number and place of an
-- image; mark-invalid has the register alone; a query that is refused has no value
pub record Values : Type 0 where
  pub register : (settings : Settings) (reply : Result Completion Refusal) → slice_index (answer_of settings reply).values 0 ≡ register_of settings reply
  pub invalid_register : (settings : Settings) (reply : Result (Unit {0}) Refusal) → slice_index (invalid_answer settings reply).values 0 ≡ settings.efuse
  pub image : (settings : Settings) (image : ImageRefusal)
      → (answer_of settings (Err (BadImage image))).values ≡ settings.efuse ∷ image_number image ∷ place_of image ∷ 0 ∷ 0 ∷ []
  pub others : (settings : Settings) (refusal : Refusal) → ((image : ImageRefusal) → refusal ≡ BadImage image → ⊥)
      → (answer_of settings (Err refusal)).values ≡ settings.efuse ∷ 0 ∷ 0 ∷ 0 ∷ 0 ∷ []
  pub refused : (settings : Settings) (refusal : Refusal) → drop 3 (answer_of settings (Err refusal)).values ≡ 0 ∷ 0 ∷ []
  pub done : (settings : Settings) (done : Completion)
      → (answer_of settings (Ok done)).values ≡ done.register ∷ 0 ∷ 0 ∷ done.facts.length ∷ done.facts.entry ∷ []
  pub invalid : (settings : Settings) (reply : Result (Unit {0}) Refusal) → (invalid_answer settings reply).values ≡ settings.efuse ∷ []
  pub state : (state : State) → (query_answer (Ok state)).values ≡ word_of state ∷ []
  pub no_state : (refusal : Refusal) → (query_answer (Err refusal)).values ≡ []
  pub slot : (slot : Slot) → (next_answer (Ok slot)).values ≡ slot.0 ∷ []
  pub no_slot : (refusal : Refusal) → (next_answer (Err refusal)).values ≡ []

unfoldable pub AnswerLaw : Type 0
AnswerLaw = Numbers × Values
