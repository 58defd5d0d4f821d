use Rattle.std.proofs.Common.{◌≡◌, ◌≤◌, [], length, sym, ap, ◌∙◌, subst, arith}
use Rattle.std.specs.List.{refill}
use Rattle.crp_plan.specs.Rows.{occurrences}
use Rattle.crp_plan.specs.Bay.{Problem, IsAt, start}
use Rattle.crp_plan.proofs.Steps.{same_rows}
use Rattle.crp_plan.proofs.Tallies.{few_containers}
use Rattle.crp_bay.specs.Positions.{settled}
use Rattle.crp_bay.specs.Back.{place_of}
use Rattle.crp_bay.specs.Located.{IsLocated, IsKeptPosition, AreRowsOf}
use Rattle.crp_bay.proofs.Begun.{few_ranks, located_start, kept_start}
use Rattle.crp_bay.proofs.Pushing.{refill_whole}
use Rattle.crp_bay.proofs.Walked.{begins_at}
use Rattle.crp_bay.proofs.position.Position.start.Goals as goal

pub stacks_again-stacks-requires : goal.stacks_again-stacks-requires
stacks_again-stacks-requires c =
    let is = c.stacks.ensures.problem in
    let few = is.few_rows in
    omega (arith, ap length c.stacks.ensures.value, same_rows c.args.problem.now.heights c.args.problem.now.stacks is.stacks_fit)

pub settle-next-requires-clause-few : goal.settle-next-requires-clause-few
settle-next-requires-clause-few c =
    let is = c.ordered-ordered.ensures.problem in
    let fit = is.ordered_fit in
    omega (arith, c.ordered-ordered.ensures.value, few_containers c.args.problem.now is)

pub rows_of-row_of-requires-clause-few : goal.rows_of-row_of-requires-clause-few
rows_of-row_of-requires-clause-few c x h =
    let e : c.as_slice.result.now ≡ c.args.problem.now.stacks = c.as_slice.ensures.value ∙ c.stacks_again-stacks.ensures ∙ c.stacks.ensures.value in
    few_ranks c.args.problem.now c.ordered-ordered.ensures.problem x (subst (λ v. 1 ≤ occurrences x v) e h)

pub settle-next-requires-clause-located : goal.settle-next-requires-clause-located
settle-next-requires-clause-located c =
    let e : c.as_slice.result.now ≡ c.args.problem.now.stacks = c.as_slice.ensures.value ∙ c.stacks_again-stacks.ensures ∙ c.stacks.ensures.value in
    let m : c.as_mut_slice.result.now ≡ c.args.problem.now.stacks = c.as_mut_slice.ensures.value ∙ c.stacks_again-stacks.ensures ∙ c.stacks.ensures.value in
    let h : c.as_slice-2.result.now ≡ c.args.problem.now.heights = c.as_slice-2.ensures.value ∙ c.heights_again-heights.ensures ∙ c.heights.ensures.value in
    let same : place_of c.as_slice-2.result.now c.ordered-ordered.result 1 c.as_mut_slice.result.now ≡ start c.args.problem.now =
    ap (λ x. place_of x c.ordered-ordered.result 1 c.as_mut_slice.result.now) h ∙ ap (λ o. place_of c.args.problem.now.heights o 1 c.as_mut_slice.result.now) c.ordered-ordered.ensures.value ∙ ap (place_of c.args.problem.now.heights c.args.problem.now.ordered 1) m in
    let are : AreRowsOf (length c.args.problem.now.stacks) c.args.problem.now.stacks c.rows_of-row_of.result = subst (λ v. AreRowsOf (length v) v c.rows_of-row_of.result) e c.rows_of-row_of.ensures.rows in
    subst (IsLocated c.rows_of-row_of.result) (sym same) (located_start c.args.problem.now c.rows_of-row_of.result c.ordered-ordered.ensures.problem are c.rows_of-row_of.ensures.long)

pub invariant_of-result : goal.invariant_of-result
invariant_of-result c =
    let p : Problem = c.args.problem.now in
    let e : c.as_slice.result.now ≡ p.stacks = c.as_slice.ensures.value ∙ c.stacks_again-stacks.ensures ∙ c.stacks.ensures.value in
    let m : c.as_mut_slice.result.now ≡ p.stacks = c.as_mut_slice.ensures.value ∙ c.stacks_again-stacks.ensures ∙ c.stacks.ensures.value in
    let h : c.as_slice-2.result.now ≡ p.heights = c.as_slice-2.ensures.value ∙ c.heights_again-heights.ensures ∙ c.heights.ensures.value in
    let same : place_of c.as_slice-2.result.now c.ordered-ordered.result 1 c.as_mut_slice.result.now ≡ start p =
    ap (λ x. place_of x c.ordered-ordered.result 1 c.as_mut_slice.result.now) h ∙ ap (λ o. place_of p.heights o 1 c.as_mut_slice.result.now) c.ordered-ordered.ensures.value ∙ ap (place_of p.heights p.ordered 1) m in
    let are : AreRowsOf (length p.stacks) p.stacks c.rows_of-row_of.result = subst (λ v. AreRowsOf (length v) v c.rows_of-row_of.result) e c.rows_of-row_of.ensures.rows in
    let located : IsLocated c.rows_of-row_of.result (start p) = located_start p c.rows_of-row_of.result c.ordered-ordered.ensures.problem are c.rows_of-row_of.ensures.long in
    let long : length c.settle-next.new.stacks ≡ length c.stacks_again-stacks.result.items = omega (arith, c.settle-next.auto.stacks, ap length c.as_mut_slice.ensures.value) in
    let whole : place_of c.heights_again-heights.result.items c.ordered-ordered.result c.settle-next.result (refill (length c.stacks_again-stacks.result.items) c.stacks_again-stacks.result.items c.settle-next.new.stacks) ≡ settled (start p) =
    ap (place_of c.heights_again-heights.result.items c.ordered-ordered.result c.settle-next.result) (refill_whole c.stacks_again-stacks.result.items c.settle-next.new.stacks long)
    ∙ ap (λ x. place_of x c.ordered-ordered.result c.settle-next.result c.settle-next.new.stacks) (sym c.as_slice-2.ensures.value)
    ∙ c.settle-next.ensures ∙ ap settled same in
    subst (λ us. IsKeptPosition us c.rows_of-row_of.result (place_of c.heights_again-heights.result.items c.ordered-ordered.result c.settle-next.result (refill (length c.stacks_again-stacks.result.items) c.stacks_again-stacks.result.items c.settle-next.new.stacks))) (sym c.new.ensures)
    (subst (IsKeptPosition [] c.rows_of-row_of.result) (sym whole) (kept_start p c.rows_of-row_of.result c.ordered-ordered.ensures.problem located))

pub returns-clause-at : goal.returns-clause-at
returns-clause-at c =
    let p : Problem = c.args.problem.now in
    let e : c.as_slice.result.now ≡ p.stacks = c.as_slice.ensures.value ∙ c.stacks_again-stacks.ensures ∙ c.stacks.ensures.value in
    let m : c.as_mut_slice.result.now ≡ p.stacks = c.as_mut_slice.ensures.value ∙ c.stacks_again-stacks.ensures ∙ c.stacks.ensures.value in
    let h : c.as_slice-2.result.now ≡ p.heights = c.as_slice-2.ensures.value ∙ c.heights_again-heights.ensures ∙ c.heights.ensures.value in
    let same : place_of c.as_slice-2.result.now c.ordered-ordered.result 1 c.as_mut_slice.result.now ≡ start p =
    ap (λ x. place_of x c.ordered-ordered.result 1 c.as_mut_slice.result.now) h ∙ ap (λ o. place_of p.heights o 1 c.as_mut_slice.result.now) c.ordered-ordered.ensures.value ∙ ap (place_of p.heights p.ordered 1) m in
    let are : AreRowsOf (length p.stacks) p.stacks c.rows_of-row_of.result = subst (λ v. AreRowsOf (length v) v c.rows_of-row_of.result) e c.rows_of-row_of.ensures.rows in
    let located : IsLocated c.rows_of-row_of.result (start p) = located_start p c.rows_of-row_of.result c.ordered-ordered.ensures.problem are c.rows_of-row_of.ensures.long in
    let long : length c.settle-next.new.stacks ≡ length c.stacks_again-stacks.result.items = omega (arith, c.settle-next.auto.stacks, ap length c.as_mut_slice.ensures.value) in
    let whole : place_of c.heights_again-heights.result.items c.ordered-ordered.result c.settle-next.result (refill (length c.stacks_again-stacks.result.items) c.stacks_again-stacks.result.items c.settle-next.new.stacks) ≡ settled (start p) =
    ap (place_of c.heights_again-heights.result.items c.ordered-ordered.result c.settle-next.result) (refill_whole c.stacks_again-stacks.result.items c.settle-next.new.stacks long)
    ∙ ap (λ x. place_of x c.ordered-ordered.result c.settle-next.result c.settle-next.new.stacks) (sym c.as_slice-2.ensures.value)
    ∙ c.settle-next.ensures ∙ ap settled same in
    subst (IsAt p []) (sym whole) (begins_at p c.ordered-ordered.ensures.problem)
