use Rattle.std.proofs.Common.{ℕ, List, subst, rules}
use Rattle.std.proofs.lemmas.Result.{err_from_is_err_and}
use Rattle.crp_plan.specs.Faults.{IsPlanFault}
use Rattle.crp_commands.proofs.replaying.report_of.Goals as goal

pub returns-in_err-plan-in-Some-clause-refused : goal.returns-in_err-plan-in-Some-clause-refused
returns-in_err-plan-in-Some-clause-refused c =
    let p = err_from_is_err_and c.from_residual-in_err-plan-in-Some.result c.from_residual-in_err-plan-in-Some.ensures.1 in
    rw (p.1, p.2)
    (c.in-Some.rows, search rules, subst (λ (rows : List ℕ). IsPlanFault c.args.head.now.problem rows c.in_err-plan-in-Some.field-0.0) c.as_slice.ensures c.in_err-plan-in-Some.ensures.refused)
