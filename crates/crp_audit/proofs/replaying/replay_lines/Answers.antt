use Rattle.std.proofs.Common.{map}
use Rattle.crp_plan.specs.Bay.{start}
use Rattle.crp_audit.proofs.Follows.{from_some}
use Rattle.crp_audit.proofs.SoFar.{one_followed}
use Rattle.crp_audit.proofs.replaying.replay_lines.Goals as goal

pub loop-rest-preserved : goal.loop-rest-preserved
loop-rest-preserved c =
    let made = from_some _ c.in_ok-step.field-0 (c.in-Some.step, c.in-Some.after) c.in-Some.is c.in_ok-step.ensures.made in
    one_followed (map (λ name. name.items) c.args.names.now) (start c.args.problem.now) c.args.lines.now c.loop-rest.walk c.replay_line.new.walk c.loop-rest.path.items
    c.push_row.new.path.items c.loop-rest.rest.now c.in-Some.after.now c.in-Some.step c.loop-rest.invariant made.0 made.1 c.in_ok-push_row.ensures
