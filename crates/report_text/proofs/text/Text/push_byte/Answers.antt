use Rattle.std.proofs.Common.{◌+◌, length, arith, sym, ap, ◌∙◌, length-set, length-take-le}
use Rattle.std.proofs.lemmas.List.{drop-set-lt}
use Rattle.report_text.proofs.Zeros.{zeros_left}
use Rattle.report_text.proofs.text.Text.push_byte.Goals as goal

pub invariant_of-self : goal.invariant_of-self
invariant_of-self c =
    let held = c.self.inside in
    let inv = c.self.invariant in
    let size = ap length (sym c.self.view_is) ∙ length-take-le held.len held.bytes (omega (arith, inv.0, inv.1)) in
    let same = drop-set-lt (held.len + 1) held.bytes held.len c.args.byte (omega arith) in
    (omega (arith, c.requires, size), length-set held.bytes held.len c.args.byte ∙ inv.1, zeros_left held.bytes _ held.len 1 inv.2 same)
