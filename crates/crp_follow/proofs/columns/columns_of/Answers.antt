use Rattle.crp_follow.proofs.Few.{few_at}
use Rattle.crp_follow.proofs.columns.columns_of.Goals as goal

pub add_bay-requires : goal.add_bay-requires
add_bay-requires c = few_at c.args.bays.now c.loop-bay.bay-index c.bay-item.result c.requires c.loop-bay-test.true c.bay-item.is
