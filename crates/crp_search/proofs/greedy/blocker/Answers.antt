use Rattle.std.proofs.Common.{◌≡◌, ◌-◌, sym, ap, ◌∙◌, arith}
use Rattle.crp_bay.specs.Positions.{top, place, source, stack_at}
use Rattle.crp_search.proofs.Rule.{stack_is}
use Rattle.crp_search.proofs.greedy.blocker.Goals as goal

pub returns : goal.returns
returns c =
    let s = c.args.position.now.place in
    let here : c.row_of.result - 1 ≡ source s = omega (arith, c.row_of.ensures.value, ap (λ n. place n s.stacks) c.next.ensures.value) in
    c.top_rank.ensures ∙ ap top (sym (stack_is s (c.row_of.result - 1) c.stack.result.now c.stack.ensures.value)) ∙ ap (λ j. top (stack_at s j)) here
