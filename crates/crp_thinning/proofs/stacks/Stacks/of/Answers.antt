use Rattle.std.proofs.Common.{◌≤◌, ℕ, List, sym, ◌∙◌, subst}
use Rattle.crp_plan.specs.Rows.{occurrences}
use Rattle.crp_thinning.proofs.Begun.{fine_start}
use Rattle.crp_thinning.proofs.stacks.Stacks.of.Goals as goal

pub rows_of-row_of-requires-clause-once : goal.rows_of-row_of-requires-clause-once
rows_of-row_of-requires-clause-once c x =
    subst (λ (l : List (List ℕ)). occurrences x l ≤ 1) (sym (c.as_slice.ensures.value ∙ c.stacks_of-stacks.ensures)) ((fine_start c.args.position.now.place c.rows-rows.ensures.reached).once x)

pub rows_of-row_of-requires-clause-few : goal.rows_of-row_of-requires-clause-few
rows_of-row_of-requires-clause-few c x h =
    (fine_start c.args.position.now.place c.rows-rows.ensures.reached).ranks x (subst (λ (l : List (List ℕ)). 1 ≤ occurrences x l) (c.as_slice.ensures.value ∙ c.stacks_of-stacks.ensures) h)
