use Rattle.std.proofs.Common.{sym, arith, length-take-le}
use Rattle.sectors.proofs.reading.record_part.Goals as goal

pub slice_bounds-result-end : goal.slice_bounds-result-end
slice_bounds-result-end c = sym (length-take-le _ c.args.sector.now (omega arith))
