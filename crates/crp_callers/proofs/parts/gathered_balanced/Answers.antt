use Rattle.crp_gather.specs.Gathers.{IsGatherFault}
use Rattle.crp_callers.proofs.Gathered.{memory_alone}
use Rattle.crp_callers.proofs.parts.gathered_balanced.Goals as goal

pub returns : goal.returns
returns c =
    let whole = c.balanced_parts_are_whole.ensures c.args.problem.now c.args.parts.items c.rows-rows.ensures.problem c.requires.of_problem c.requires.kept c.requires.balanced in
    memory_alone _ (IsGatherFault c.args.problem.now c.args.parts.items) (λ g. c.order_changes_nothing.ensures.either c.args.problem.now c.args.parts.items g whole) c.gather.ensures.refused
