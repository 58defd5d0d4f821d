use Rattle.crp_checker.proofs.Written.{accepted_written}
use Rattle.crp_checker.proofs.laws.written_is_accepted.Goals as goal

pub returns : goal.returns
returns c = accepted_written
