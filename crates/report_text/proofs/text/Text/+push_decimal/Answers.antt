use Rattle.std.proofs.Common.{◌+◌, ◌/◌, ◌%◌, [], ◌∷◌, arith, append_assoc}
use Rattle.std.specs.Fmt.{decimal}
use Rattle.report_text.proofs.Sizes.{last_digit}
use Rattle.report_text.proofs.text.Text.+push_decimal.Goals as goal

pub returns-clause-text : goal.returns-clause-text
returns-clause-text t c =
    let all = c.push_byte-2.ensures.text in
    let front = c.push_decimal.ensures.text in
    let last = last_digit c.args.n (omega (arith, c.if-n-lt10.false)) (omega (arith, c.ranges.n.fits)) in
    let joined = append_assoc c.args.self.now (decimal (c.args.n / 10)) ((48 + c.args.n % 10) ∷ []) in
    cc
