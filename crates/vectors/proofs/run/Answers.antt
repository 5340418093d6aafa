-- `vectors::run` is safe and ends: the lengths stay.
-- Assumes nothing.
use mathlib.Core.Path.{sym}
use lib.Seq.{length-take-le}
use native.Mathlib.Omega.{arith}
use Rattle.vectors.proofs.run.Goals as goal

pub slice_bounds-answer-end-in-loop : goal.slice_bounds-answer-end-in-loop
slice_bounds-answer-end-in-loop c = sym (length-take-le _ _ (omega arith))
