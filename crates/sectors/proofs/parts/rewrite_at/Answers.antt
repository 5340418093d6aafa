use Rattle.std.proofs.Common.{◌*◌, List, ℕ, sym, ap, ◌∙◌, arith}
use Rattle.std.specs.Result.{result_unwrap_or}
use Rattle.sectors.specs.Rewrite.{done, rewrite}
use Rattle.sectors.specs.Otadata.{sector_at}
use Rattle.sectors.proofs.Slices.{slice_is, with_slice_of, done_left_at, bytes_left_at}
use Rattle.sectors.proofs.parts.rewrite_at.Goals as goal

pub returns-clause-reply : goal.returns-clause-reply
returns-clause-reply c =
    let at = c.bounds-start.ensures in
    c.rewrite.ensures.reply
    ∙ ap (λ (s : List ℕ). done (rewrite s c.args.bytes.now))
    (slice_is c.args.otadata.now (c.args.k * 4096) 4096 _ _ (omega (arith, at.start)) (omega (arith, at.start, at.end)))
    ∙ sym (done_left_at c.args.k c.args.otadata.now (rewrite (sector_at c.args.k c.args.otadata.now) c.args.bytes.now))

pub returns-clause-bytes : goal.returns-clause-bytes
returns-clause-bytes c =
    let at = c.bounds-start.ensures in
    with_slice_of c.args.otadata.now (c.args.k * 4096) 4096 _ _ (omega (arith, at.start)) (omega (arith, at.start, at.end))
    (λ (s : List ℕ). result_unwrap_or (rewrite s c.args.bytes.now) s) c.rewrite.new.sector c.rewrite.ensures.bytes
    ∙ bytes_left_at c.args.k c.args.otadata.now (rewrite (sector_at c.args.k c.args.otadata.now) c.args.bytes.now)
