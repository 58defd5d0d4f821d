use Rattle.std.proofs.Common.{arith}
use Rattle.std.proofs.lemmas.Option.{slice_get_within}
use Rattle.crp_bay.proofs.Reaching.{reached_same_rows}
use Rattle.crp_chains.proofs.finding.row_with.Goals as goal

pub returns-clause-none : goal.returns-clause-none
returns-clause-none c i stack e =
    c.loop-row.invariant i stack
    (omega (arith, slice_get_within c.args.position.now.place.stacks i stack e, reached_same_rows c.args.position.now.place c.rows-row-end.ensures.reached, c.rows-row-end.ensures.value, c.loop-row-test.false))
    e
