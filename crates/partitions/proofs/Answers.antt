-- The number of an answer.
use Rattle.std.proofs.Common.{refl, Ok, Err}
use Rattle.partitions.specs.Answer.{AnswerNumber}

pub answer_number : AnswerNumber
unfolding AnswerNumber
answer_number (Ok listing) = refl
answer_number (Err refusal) = refl
