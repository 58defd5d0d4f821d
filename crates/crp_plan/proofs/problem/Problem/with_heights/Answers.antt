use Rattle.crp_plan.specs.Faults.{stacks_of}
use Rattle.crp_plan.proofs.Heights.{low_rows, has_heights}
use Rattle.crp_plan.proofs.problem.Problem.with_heights.Goals as goal

pub total_of-containers-requires-clause-fit : goal.total_of-containers-requires-clause-fit
total_of-containers-requires-clause-fit c =
    low_rows c.args.heights.now c.args.stacks.now (c.fit.ensures.0 c.if-not-fit.false) (c.are_heights.ensures.0 c.if-not-are_heights.false)

pub are_ranks-requires-clause-fit : goal.are_ranks-requires-clause-fit
are_ranks-requires-clause-fit c =
    low_rows c.args.heights.now c.args.stacks.now (c.fit.ensures.0 c.if-not-fit.false) (c.are_heights.ensures.0 c.if-not-are_heights.false)

pub in_place-requires-clause-fit : goal.in_place-requires-clause-fit
in_place-requires-clause-fit c =
    low_rows c.args.heights.now c.args.stacks.now (c.fit.ensures.0 c.if-not-fit.false) (c.are_heights.ensures.0 c.if-not-are_heights.false)

pub returns-then-not-has_heights-clause-accepted : goal.returns-then-not-has_heights-clause-accepted
returns-then-not-has_heights-clause-accepted c = (
  λ e. cc,
  λ is. let yes = c.has_heights.ensures.1 (has_heights c.args.heights.now c.args.ordered (stacks_of c.args.stacks.now) is) in let no = c.if-not-has_heights.true in cc,
)
