use Rattle.std.proofs.Common.{◌≡◌, ◌≤◌, ◌<◌, ◌-◌, List, ℕ, length, Some, slice_get, arith, refl, sym, subst, ap, ◌∙◌}
use Rattle.std.proofs.lemmas.Option.{slice_get_read}
use Rattle.crp_plan.specs.Bay.{Problem, IsProblem}
use Rattle.crp_plan.proofs.Steps.{same_rows}
use Rattle.crp_plan.proofs.problem.Problem.stack.Goals as goal

below : (p q : Problem) (row : ℕ) (stacks : List (List ℕ)) → p ≡ q → IsProblem p → 1 ≤ row → row ≤ length q.heights → stacks ≡ p.stacks → row - 1 < length stacks
below p q row stacks same is some low are =
    let low' : row ≤ length p.heights = subst (λ (s : Problem). row ≤ length s.heights) (sym same) low in
    omega (arith, low', some, same_rows p.heights p.stacks is.stacks_fit, ap length are)

pub bounds-deref-row : goal.bounds-deref-row
bounds-deref-row c = below _ _ c.args.row c.deref.result.now c.self.view_is c.self.invariant.problem c.requires.counts c.requires.there c.deref.ensures.0

pub returns-clause-value : goal.returns-clause-value
returns-clause-value c =
    let there = below _ _ c.args.row c.deref.result.now c.self.view_is c.self.invariant.problem c.requires.counts c.requires.there c.deref.ensures.0 in
    ap (λ stacks. slice_get stacks (c.args.row - 1)) (sym (ap (λ (p : Problem). p.stacks) c.self.view_is) ∙ sym c.deref.ensures.0)
    ∙ slice_get_read c.deref.result.now (length c.deref.result.now) (c.args.row - 1) c.index-deref-row.result refl there c.index-deref-row.is
    ∙ ap Some (sym c.ranks.ensures.value)
