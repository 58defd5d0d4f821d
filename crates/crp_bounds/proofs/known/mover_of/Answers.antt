use Rattle.std.proofs.Common.{◌+◌, ◌-◌, length, ◌∙◌, ap, arith}
use Rattle.crp_bay.specs.Positions.{place}
use Rattle.crp_bounds.proofs.Marking.{top_read}
use Rattle.crp_bounds.proofs.known.mover_of.Goals as goal

pub overflow_sub-result : goal.overflow_sub-result
overflow_sub-result c =
    let t = top_read c.args.position.now.place c.row_of-row.result c.stack-stack.result.now c.next-next.ensures.reached (omega (arith, c.next-next.ensures.value, c.ordered.ensures.value)) (c.row_of-row.ensures.value ∙ ap (λ n. place n c.args.position.now.place.stacks + 1) c.next-next.ensures.value) c.stack-stack.ensures.value in omega (arith, t.0)

pub bounds-stack-stack : goal.bounds-stack-stack
bounds-stack-stack c =
    let t = top_read c.args.position.now.place c.row_of-row.result c.stack-stack.result.now c.next-next.ensures.reached (omega (arith, c.next-next.ensures.value, c.ordered.ensures.value)) (c.row_of-row.ensures.value ∙ ap (λ n. place n c.args.position.now.place.stacks + 1) c.next-next.ensures.value) c.stack-stack.ensures.value in omega (arith, t.0)

pub returns : goal.returns
returns c le =
    let row = c.row_of-row.ensures.value ∙ ap (λ n. place n c.args.position.now.place.stacks + 1) c.next-next.ensures.value in
    let t = top_read c.args.position.now.place c.row_of-row.result c.stack-stack.result.now c.next-next.ensures.reached le row c.stack-stack.ensures.value in
    record { rank = t.1; row = row; few = c.stack-stack.ensures.ranks (length c.stack-stack.result.now - 1) 0 (omega (arith, t.0)) }
