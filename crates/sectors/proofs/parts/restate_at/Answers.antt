use Rattle.std.proofs.Common.{◌*◌, List, ℕ, sym, ap, ◌∙◌}
use Rattle.sectors.specs.Sector.{read_sector}
use Rattle.sectors.specs.Rewrite.{restated}
use Rattle.sectors.specs.Otadata.{sector_at, with_sector}
use Rattle.sectors.proofs.Slices.{slice_is, with_slice_is, slice_replaced}
use Rattle.sectors.proofs.Restating.{length-restated}
use Rattle.sectors.proofs.parts.restate_at.Goals as goal

pub returns-clause-bytes : goal.returns-clause-bytes
returns-clause-bytes c =
    let at = c.bounds-start.ensures in
    let lent = slice_is c.args.otadata.now (c.args.k * 4096) 4096 c.bounds-start.result.0 c.bounds-start.result.1 at.start at.end in
    with_slice_is c.args.otadata.now (c.args.k * 4096) 4096 c.bounds-start.result.0 c.bounds-start.result.1 at.start at.end c.restate.new.sector
    ∙ ap (λ (s : List ℕ). with_sector c.args.k s c.args.otadata.now) (c.restate.ensures.bytes ∙ ap (restated c.args.state) lent)

pub returns-clause-reading : goal.returns-clause-reading
returns-clause-reading c =
    let at = c.bounds-start.ensures in
    let lent = slice_is c.args.otadata.now (c.args.k * 4096) 4096 c.bounds-start.result.0 c.bounds-start.result.1 at.start at.end in
    let sector : List ℕ = sector_at c.args.k c.args.otadata.now in
    let left = c.restate.ensures.bytes ∙ ap (restated c.args.state) lent in
    c.restate.ensures.reading
    ∙ ap read_sector (left ∙ sym (slice_replaced (c.args.k * 4096) 4096 (restated c.args.state sector) c.args.otadata.now (length-restated c.args.state sector)))
    ∙ ap (λ (o : List ℕ). read_sector (sector_at c.args.k o)) (sym (returns-clause-bytes c))
