use Rattle.std.proofs.Common.{inr}
use Rattle.crp_plan.specs.Bay.{Position}
use Rattle.crp_thinning.proofs.Ending.{on_true_then, on_false_then, counted_after, cannot_after}
use Rattle.crp_thinning.proofs.reading.end_chain.Goals as goal

pub returns-then-last_number-clause-done : goal.returns-then-last_number-clause-done
returns-then-last_number-clause-done c =
    let s : Position = c.args.track.now.place in
    let e = c.if-last_number.ensures in
    on_true_then _ _ c.count_chain.result c.count_chain.ensures.counted
    (λ k. record { may_end = e.may; counted = counted_after s c.args.reading.now c.last_number.new.reading c.count_chain.new.reading e.ranks e.same k })

pub returns-then-last_number-clause-refused : goal.returns-then-last_number-clause-refused
returns-then-last_number-clause-refused c =
    let s : Position = c.args.track.now.place in
    let e = c.if-last_number.ensures in
    on_false_then _ _ c.count_chain.result c.count_chain.ensures.refused (λ k. inr (cannot_after s c.args.reading.now c.last_number.new.reading e.ranks e.same k))
