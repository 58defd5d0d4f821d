use Rattle.std.proofs.lemmas.List.{drop_all}
use Rattle.crp_plan.specs.declared.moves.Move.TheVariants.{Shift}
use Rattle.crp_said.proofs.LinesSoFar.{next_written, more_written, all_written}
use Rattle.crp_said.proofs.move_lines.lines_of.Goals as goal

pub push_line-requires-clause-legal : goal.push_line-requires-clause-legal
push_line-requires-clause-legal c =
    let stated = next_written _ _ _ c.args.moves.now c.loop-step.step-index (Shift 0 0) _ c.loop-step-test.true c.loop-step.invariant in
    (stated.runs.0, stated.runs.1)

pub loop-step-preserved : goal.loop-step-preserved
loop-step-preserved c =
    let stated = next_written _ _ _ c.args.moves.now c.loop-step.step-index (Shift 0 0) _ c.loop-step-test.true c.loop-step.invariant in
    more_written _ _ _ _ _ _ _ _ _ stated c.make.ensures c.in_ok-push_line.ensures

pub returns : goal.returns
returns c = all_written _ _ _ _ _ _ (drop_all c.loop-step.step-index c.args.moves.now c.loop-step-test.false) c.loop-step.invariant
