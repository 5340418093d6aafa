use Rattle.std.proofs.Common.{◌*◌, ap, ◌∙◌, arith}
use Rattle.sectors.specs.Sector.{read_sector}
use Rattle.sectors.proofs.Slices.{slice_is}
use Rattle.sectors.proofs.parts.read_at.Goals as goal

pub returns : goal.returns
returns c =
    let at = c.bounds-start.ensures in
    c.read_sector.ensures ∙ ap read_sector (slice_is c.args.otadata.now (c.args.k * 4096) 4096 _ _ (omega (arith, at.start)) (omega (arith, at.start, at.end)))
