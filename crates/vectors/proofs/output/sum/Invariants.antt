-- The loop of `vectors::output::sum`: the sum is a remainder.
use Rattle.std.proofs.Common.{◌<◌}
use Rattle.vectors.proofs.output.sum.Given as goal

abbrev pub invariant-loop-byte : goal.invariant-loop-byte
invariant-loop-byte l = l.sum < 4294967291
