use Rattle.std.proofs.Common.{◌≡◌, List, ℕ, ap, sym, ◌∙◌, rules, Ok}
use Rattle.std.specs.Result.{result_unwrap_or}
use Rattle.sectors.specs.Sector.{read_sector}
use Rattle.sectors.specs.Rewrite.{done, rewrite, in_other_state, restated}
use Rattle.sectors.proofs.Restating.{size_of_good, rewritten, record_restated, restated_reads}
use Rattle.sectors.proofs.rewriting.restate.Goals as goal

pub unwrap-requires : goal.unwrap-requires
unwrap-requires c =
    let was : read_sector c.args.sector.now ≡ Ok c.in_ok-read_sector.field-0 = sym c.read_sector.ensures ∙ c.in_ok-read_sector.was in
    let left = rewritten c.args.sector.now c.to_bytes.result (size_of_good c.args.sector.now _ was) (search rules) in
    let is_ok = c.rewrite.ensures.reply ∙ ap done left in
    search (rules, is_ok)

pub returns-clause-reading : goal.returns-clause-reading
returns-clause-reading c =
    let was : read_sector c.args.sector.now ≡ Ok c.in_ok-read_sector.field-0 = sym c.read_sector.ensures ∙ c.in_ok-read_sector.was in
    let left : c.rewrite.new.sector ≡ restated c.args.state c.args.sector.now =
    c.rewrite.ensures.bytes
    ∙ ap (λ (b : List ℕ). result_unwrap_or (rewrite c.args.sector.now b) c.args.sector.now) c.to_bytes.ensures.bytes
    ∙ sym (record_restated c.args.state c.args.sector.now _ was) in
    sym (ap read_sector left ∙ restated_reads c.args.state c.args.sector.now ∙ ap (in_other_state c.args.state) was)
