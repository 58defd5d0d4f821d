use Rattle.crp_follow.proofs.BehindSteps.{only_memory}
use Rattle.crp_follow.proofs.behind.rows_behind.Goals as goal

pub out_of_memory-requires : goal.out_of_memory-requires
out_of_memory-requires c = only_memory c.args.yard.now c.args.bay c.heights.result.now c.in_ok-rows.rows.items c.args.moves.now c.in-Err.fault c.requires.can c.heights.ensures.value c.in_ok-rows.ensures c.in-Err.ensures.wrong
