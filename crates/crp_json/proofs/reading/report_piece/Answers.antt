use Rattle.crp_json.proofs.NoEntry.{no_piece}
use Rattle.crp_json.proofs.reading.report_piece.Goals as goal

pub returns-in_default-clause-none : goal.returns-in_default-clause-none
returns-in_default-clause-none c = no_piece c.args.piece.now (rw c.in_default.is at c.in_ok-entry.ensures.none)
