use Rattle.std.proofs.Common.{sym}
use Rattle.crp_bay.proofs.Tops.{ends_at}
use Rattle.crp_thinning.proofs.moving.is_on_top.Goals as goal

pub returns-then-count-gt0 : goal.returns-then-count-gt0
returns-then-count-gt0 c = sym (ends_at c.args.rank c.args.stack.now c.if-count-gt0.true)
