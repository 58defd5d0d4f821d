use Rattle.crp_said.proofs.StatedMoves.{one_move}
use Rattle.crp_said.proofs.laws.one_move.Goals as goal

pub returns : goal.returns
returns c = one_move
