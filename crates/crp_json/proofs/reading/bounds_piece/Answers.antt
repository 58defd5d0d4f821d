use Rattle.crp_json.proofs.NoEntry.{no_bounds_piece}
use Rattle.crp_json.proofs.reading.bounds_piece.Goals as goal

pub returns-in_default-clause-none : goal.returns-in_default-clause-none
returns-in_default-clause-none c = no_bounds_piece c.args.piece.now (rw c.in_default.is at c.in_ok-bounds.ensures.none)
