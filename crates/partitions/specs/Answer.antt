-- Answers in numbers: the number of a refusal, or 0, and the values that are given.
use Rattle.std.specs.Prelude.{ℕ, ◌≡◌, [], ◌∷◌, Result, Ok, Err, if◌then◌else◌}
use Rattle.otadata.specs.Answer.{Answer}
use Rattle.otadata.specs.Number.{reply_number}
use Rattle.partitions.specs.declared.list.BadList.{BadList}
use Rattle.partitions.specs.declared.parts.Listing.{Listing}

-- a list that breaks its rules is refused with 1
abbrev pub number_of : BadList → ℕ
number_of refusal = 1

-- the number and the values of a tested list: of a right one the number of its slots, and 1 where factory is listed
abbrev pub answer_of : Result Listing BadList → Answer
answer_of (Ok listing) = record { number = 0; values = listing.slots ∷ (if listing.factory then 1 else 0) ∷ [] }
answer_of (Err refusal) = record { number = number_of refusal; values = [] }

-- the number of the answer is the number that the call replies
unfoldable pub AnswerNumber : Type 0
AnswerNumber = (reply : Result Listing BadList) → (answer_of reply).number ≡ reply_number number_of reply
