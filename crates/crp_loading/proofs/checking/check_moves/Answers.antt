use Rattle.std.proofs.lemmas.Result.{err_from_is_err_and}
use Rattle.crp_loading.proofs.CheckSteps.{take_stops}
use Rattle.crp_loading.proofs.checking.check_moves.Goals as goal

pub returns-in_err-last-in-Take-clause-wrong : goal.returns-in_err-last-in-Take-clause-wrong
returns-in_err-last-in-Take-clause-wrong c =
    let p = err_from_is_err_and c.from_residual.result c.from_residual.ensures.1 in
    rw (p.1, p.2) (take_stops c.args.ship.now.sequence c.args.moves.now c.loop-stated.stated-index c.loop-stated.last c.stated-item.result c.in-Take.from c.in-Take.container c.in_err-last-in-Take.field-0.0
    c.loop-stated.invariant c.loop-stated-test.true c.stated-item.is c.in-Take.is c.in_err-last-in-Take.ensures.wrong)
