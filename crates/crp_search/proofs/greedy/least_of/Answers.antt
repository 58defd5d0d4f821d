use Rattle.std.proofs.Common.{ℕ, ◌+◌, ◌<◌, min, List, length, drop, get_or, sym, ap, ◌∙◌}
use Rattle.std.proofs.lemmas.List.{drop_more}
use Rattle.crp_tree.specs.Trees.{least}
use Rattle.crp_search.proofs.Rule.{least_more}
use Rattle.crp_search.proofs.greedy.least_of.Goals as goal

pub loop-rank-preserved : goal.loop-rank-preserved
loop-rank-preserved c =
    let stack : List ℕ = c.args.stack.now in let i : ℕ = c.loop-rank.rank-index in let now : ℕ = c.loop-rank.least in
    let lt : i < length stack = c.loop-rank-test.true in
    ap (λ m. least m (drop (i + 1) stack)) (c.min-least.ensures ∙ ap (min now) c.from.ensures) ∙ least_more now (get_or stack i 0) (drop (i + 1) stack)
    ∙ ap (least now) (sym (drop_more stack i 0 lt)) ∙ c.loop-rank.invariant
