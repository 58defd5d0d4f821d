use Rattle.crp_loading.proofs.FirstTurns.{loaded_moves}
use Rattle.crp_loading.proofs.laws.loaded_moves_have_turns.Goals as goal

pub returns : goal.returns
returns c = loaded_moves
