use Rattle.std.proofs.Common.{sym}
use Rattle.crp_picture.proofs.Rowwise.{none_in}
use Rattle.crp_picture.proofs.moving.stack_in.Goals as goal

pub returns-in-None : goal.returns-in-None
returns-in-None c = sym (none_in c.args.rows.now c.args.row c.in-None.ensures.none)
