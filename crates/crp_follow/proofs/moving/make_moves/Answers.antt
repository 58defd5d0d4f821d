use Rattle.std.proofs.lemmas.Result.{err_from_is_err_and}
use Rattle.crp_follow.proofs.MoveSteps.{one_move_more, stops_here}
use Rattle.crp_follow.proofs.moving.make_moves.Goals as goal

pub returns-in_err-make_move-clause-wrong : goal.returns-in_err-make_move-clause-wrong
returns-in_err-make_move-clause-wrong c =
    let p = err_from_is_err_and c.from_residual.result c.from_residual.ensures.1 in
    rw (p.1, p.2) (stops_here c.args.heights.now c.args.rows.now.items c.loop-stated.rows.items c.args.moves.now c.loop-stated.stated-index c.stated-item.result c.in_err-make_move.field-0.0
    c.loop-stated-test.true c.stated-item.is c.loop-stated.invariant c.in_err-make_move.ensures.wrong)

pub loop-stated-preserved : goal.loop-stated-preserved
loop-stated-preserved c =
    one_move_more c.args.heights.now c.args.rows.now.items c.loop-stated.rows.items c.make_move.new.rows.items c.args.moves.now c.loop-stated.stated-index c.stated-item.result c.loop-stated-test.true
    c.stated-item.is c.loop-stated.invariant c.in_ok-make_move.ensures.made
