-- The loop of `vectors::answers::digest_by_pieces`.
use Prim.Native.Nat.{◌≤◌}
use lib.ListN.{length, take}
use Rattle.sha256.specs.Pieces.{Holds}
use Rattle.vectors.proofs.answers.digest_by_pieces.Given as goal

abbrev pub invariant-loop-i : goal.invariant-loop-i
invariant-loop-i l = (l.i ≤ l.i-end) × (l.at ≤ length l.message) × Holds l.hasher (take l.at l.message)
