use Rattle.std.proofs.Common.{◌≡◌, ◌+◌, ◌-◌, arith}
use Rattle.crp_plan.specs.Bay.{Position}
use Rattle.crp_plan.proofs.Steps.{same_rows}
use Rattle.crp_bay.specs.Positions.{place}
use Rattle.crp_thinning.proofs.RowsOf.{held_at_place, held_nowhere}
use Rattle.crp_thinning.proofs.finding.row_with.Goals as goal

pub returns-then-row-rows-clause-none : goal.returns-then-row-rows-clause-none
returns-then-row-rows-clause-none c =
    let s : Position = c.args.track.now.place in let f = c.rows.ensures.fine in
    held_nowhere c.args.rank s.stacks (omega (arith, c.place_of_rank-row.ensures.value, c.place_of_rank-row.ensures.within, c.if-row-rows.true, c.rows.ensures.value, same_rows s.heights s.stacks f.stacks_fit))

pub returns-clause-held : goal.returns-clause-held
returns-clause-held c =
    let s : Position = c.args.track.now.place in let f = c.rows.ensures.fine in
    let at : c.place_of_rank-row.result + 1 - 1 ≡ place c.args.rank s.stacks = omega (arith, c.place_of_rank-row.ensures.value) in
    held_at_place c.args.rank s.stacks (c.place_of_rank-row.result + 1 - 1) at (omega (arith, c.place_of_rank-row.ensures.value, c.if-row-rows.false, c.rows.ensures.value, same_rows s.heights s.stacks f.stacks_fit))
