use Rattle.std.proofs.Common.{min, nat_le, if◌then◌else◌, ℕ, take, get_or, sym, ap, ◌∙◌}
use Rattle.std.proofs.lemmas.List.{take_more}
use Rattle.crp_bounds.specs.Leasts.{least_ordered}
use Rattle.crp_bounds.proofs.Leasts.{least_push}
use Rattle.crp_chains.proofs.finding.least_ordered.Goals as goal

pub loop-rank-preserved : goal.loop-rank-preserved
loop-rank-preserved c =
    let i : ℕ = c.loop-rank.rank-index in
    let x : ℕ = get_or c.args.stack.now i 0 in
    c.lesser-least.ensures
    ∙ ap (λ l. if nat_le x c.args.ordered then min x l else l) c.loop-rank.invariant
    ∙ sym (least_push c.args.ordered (take i c.args.stack.now) x)
    ∙ ap (least_ordered c.args.ordered) (sym (take_more c.args.stack.now i 0 c.loop-rank-test.true))
