use Rattle.std.proofs.Common.{◌∙◌, ◌+◌, sym, subst}
use Rattle.crp_loading.proofs.FirstTurns.{IsCountSoFar, made_so_far, same_so_far}
use Rattle.crp_loading.proofs.loaded.count_up_to.Goals.{then-takes_up_to, else-takes_up_to}
use Rattle.crp_loading.proofs.loaded.count_up_to.Goals as goal

pub loop-i-preserved : goal.loop-i-preserved
loop-i-preserved c =
    let sequence = c.args.ship.now.sequence in
    let m = c.index-moves-i.result in
    let moves = c.args.moves.now in
    elim c.if-takes_up_to.branch [
      | then-takes_up_to w ↦
          subst (IsCountSoFar sequence c.args.loaded moves (c.loop-i.i + 1)) (sym w.count-is)
          (made_so_far sequence c.args.loaded moves c.loop-i.i m c.loop-i-test.true c.index-moves-i.is (sym c.takes_up_to.ensures ∙ w.if-takes_up_to.true))
      | else-takes_up_to w ↦
          subst (IsCountSoFar sequence c.args.loaded moves (c.loop-i.i + 1)) (sym w.count-is)
          (same_so_far sequence c.args.loaded moves c.loop-i.i c.loop-i.count m c.loop-i.invariant c.loop-i-test.true c.index-moves-i.is (sym c.takes_up_to.ensures ∙ w.if-takes_up_to.false))
    ]
