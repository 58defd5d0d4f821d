use Rattle.std.proofs.Common.{length, sym, ap, ◌∙◌}
use Rattle.crp_plan.specs.Bay.{Problem}
use Rattle.crp_plan.proofs.Steps.{same_rows}
use Rattle.crp_plan.proofs.problem.Problem.rows.Goals as goal

pub returns-clause-stacks : goal.returns-clause-stacks
returns-clause-stacks c =
    c.len.ensures.value ∙ sym (same_rows c.self.inside.heights.items c.self.inside.stacks.items c.self.invariant.problem.stacks_fit) ∙ ap (λ (p : Problem). length p.stacks) c.self.view_is
