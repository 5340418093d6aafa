-- `vectors::answers::digest_by_pieces` meets its contract: however the message is cut, the digest is that of the whole. The loop's invariant:
-- the hasher holds the message up to `at`.
-- Assumes nothing.
use native.Mathlib.Omega.{arith}
use lib.ListN.{take}
use borrow.Author.Rules.{rules}
use Rattle.vectors.proofs.Cuts.{piece, rest}
use Rattle.vectors.proofs.answers.digest_by_pieces.Goals as goal

pub loop-i-init : goal.loop-i-init
loop-i-init c = (search rules, search rules, c.fresh-hasher.ensures)

pub loop-i-preserved : goal.loop-i-preserved
loop-i-preserved c =
    let at = c.loop-i in
    let m = c.args.message.now in (
      omega arith,
      omega arith,
      rw (← piece m at.at c.piece_end-end.result (omega arith)) (c.fed-hasher.ensures (take at.at m) at.invariant.2),
    )

pub returns : goal.returns
returns c =
    let at = c.loop-i in
    let m = c.args.message.now in
    c.finished.ensures m (rw (← rest m at.at) (c.fed.ensures (take at.at m) at.invariant.2))
