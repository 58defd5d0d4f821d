use Rattle.crp_checker.proofs.Written.{first_written}
use Rattle.crp_checker.proofs.laws.first_written_is_accepted.Goals as goal

pub returns : goal.returns
returns c = first_written
