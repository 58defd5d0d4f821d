use Rattle.std.proofs.Common.{rules}
use Rattle.crp_callers.proofs.PlanLines.{plan_seen}
use Rattle.crp_callers.proofs.audited_lines.are_plan_lines.Goals as goal
use Rattle.crp_callers.proofs.audited_lines.are_plan_lines.Goals.{in-Plan, in-Nothing, in-Stopped, in-Other}

pub returns-clause-printed : goal.returns-clause-printed
returns-clause-printed c = λ h b names problem lines prints.
    let seen = plan_seen c.one_kind.ensures.one_end c.one_plan_is_printed.ensures c.printed_plans_are_followed.ensures h b c.args.count _ _ _ names problem lines
    c.cap-is_problem.ensures.problem prints c.in_ok-look_at.field-0 c.in_ok-look_at.ensures in
    let is = seen.1 in
    elim c.match-branch-2.branch [
      | in-Plan w ↦ search rules
      | in-Nothing w ↦ cc (is, w.in-Nothing.is)
      | in-Stopped w ↦ cc (is, w.in-Stopped.is)
      | in-Other w ↦ cc (is, w.in-Other.is)
    ]
