use Rattle.crp_thinning.proofs.GoodRows.{top_at}
use Rattle.crp_thinning.proofs.rows.top_of.Goals as goal

pub returns : goal.returns
returns c = top_at c.args.stack.now c.requires
