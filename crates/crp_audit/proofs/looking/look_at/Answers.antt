use Rattle.std.proofs.Common.{ℕ, Option, map, sym, subst}
use Rattle.crp_audit.specs.Printed.{IsLookedAt}
use Rattle.crp_audit.proofs.looking.look_at.Goals as goal

pub returns : goal.returns
returns c =
    let names = map (λ name. name.items) c.args.names.now in
    subst (λ (k : Option ℕ). IsLookedAt names c.args.problem.now k c.args.lines.now c.of_plan.result) (sym c.in-Some.is)
    (c.of_plan.ensures names c.args.problem.now c.args.lines.now c.in_ok-replayed.ensures)
