use Rattle.std.proofs.Common.{◌+◌, ◌-◌, length, arith, sym, ap, ◌∙◌, length-append, length-take, length-drop, length-take-le}
use Rattle.std.proofs.lemmas.Slice.{drop-put_mid}
use Rattle.report_text.proofs.Zeros.{zeros_left}
use Rattle.report_text.proofs.text.Text.push_str.Goals as goal

pub invariant_of-self : goal.invariant_of-self
invariant_of-self c =
    let held = c.self.inside in
    let inv = c.self.invariant in
    let size = ap length (sym c.self.view_is) ∙ length-take-le held.len held.bytes (omega (arith, inv.0, inv.1)) in
    let more = length c.args.more.now in
    let put = c.copy_from_slice.new.self in
    let new = ap length c.copy_from_slice.ensures.after ∙ ap length c.as_bytes.ensures.value in
    let same = drop-put_mid held.len (held.len + more - held.len) held.bytes put (held.len + more) (omega arith) (omega (arith, inv.0, inv.1)) (omega (arith, new)) in (
      omega (arith, c.requires, size),
      simp (length-append, length-take, length-drop) (omega (arith, inv.0, inv.1, c.requires, size, new)),
      zeros_left held.bytes _ held.len more inv.2 same,
    )
