use Rattle.std.proofs.Common.{◌≡◌, ◌∙◌, sym, ap}
use Rattle.std.proofs.lemmas.Bool.Decides.{Decides-eqb}
use Rattle.crp_plan.specs.Bay.{Problem}
use Rattle.crp_plan.proofs.Same.{same_heights, same_if_stacks}
use Rattle.crp_plan.proofs.problem.Problem.is_same.Goals as goal
use Rattle.crp_plan.proofs.problem.Problem.is_same.Goals.{then-eq, else-eq}

pub returns-then-self-other : goal.returns-then-self-other
returns-then-self-other c =
    let p = c.args.self.now in
    let q = c.args.other.now in
    let both : (p.heights ≡ q.heights) × (p.ordered ≡ q.ordered) = elim c.if-eq.branch as (λ _. (p.heights ≡ q.heights) × (p.ordered ≡ q.ordered)) [
      | then-eq w ↦ (
        sym c.heights.ensures.value ∙ same_heights c.heights.result.now c.heights-2.result.now c.eq.result c.eq.ensures w.if-eq.true ∙ c.heights-2.ensures.value,
        let inside = (Decides-eqb c.self.inside.ordered c.other.inside.ordered).0 (sym w.value-is ∙ c.if-self-other.true) in
            let one = ap (λ (s : Problem). s.ordered) c.self.view_is in
            let two = ap (λ (s : Problem). s.ordered) c.other.view_is in
            cc,
      )
      | else-eq w ↦ absurd (let a = w.value-is in let b = c.if-self-other.true in cc)
    ] in
    same_if_stacks p q c.stacks.result.now c.stacks-then-self-other.result.now c.eq-then-self-other.result c.stacks.ensures.value c.stacks-then-self-other.ensures.value c.eq-then-self-other.ensures both.0 both.1
