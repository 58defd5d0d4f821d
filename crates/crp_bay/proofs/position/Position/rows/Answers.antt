use Rattle.std.proofs.Common.{arith}
use Rattle.crp_bay.proofs.Reaching.{reached_rows}
use Rattle.crp_bay.proofs.position.Position.rows.Goals as goal

pub returns-clause-few : goal.returns-clause-few
returns-clause-few c = let r = reached_rows _ c.self.invariant.reached in omega (arith, r.1, c.len.ensures.value)
