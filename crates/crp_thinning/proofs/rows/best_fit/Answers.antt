use Rattle.std.proofs.Common.{get_or}
use Rattle.crp_thinning.proofs.Forward.{good_row}
use Rattle.crp_thinning.proofs.rows.best_fit.Goals as goal

pub stack-requires-clause-counts : goal.stack-requires-clause-counts
stack-requires-clause-counts c = (good_row _ c.args.track.now.place (get_or c.args.rows.now c.loop-i.i 0) c.ordered.ensures.fine (c.requires c.loop-i.i c.loop-i-test.true)).0

pub stack-requires-clause-there : goal.stack-requires-clause-there
stack-requires-clause-there c = (good_row _ c.args.track.now.place (get_or c.args.rows.now c.loop-i.i 0) c.ordered.ensures.fine (c.requires c.loop-i.i c.loop-i-test.true)).1
