use Rattle.crp_said.specs.Spelled.{IsMoveBody}
use Rattle.crp_said.proofs.CutLines.{none_begun}
use Rattle.crp_said.proofs.reading.next_move.Goals as goal

pub returns-in_default-clause-none : goal.returns-in_default-clause-none
returns-in_default-clause-none c = none_begun IsMoveBody c.args.bytes.now c.in_default.ensures.none
