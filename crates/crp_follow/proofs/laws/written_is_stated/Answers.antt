use Rattle.crp_follow.proofs.Written.{written_is_stated}
use Rattle.crp_follow.proofs.laws.written_is_stated.Goals as goal

pub returns : goal.returns
returns c = λ text report bays short spells so. written_is_stated text report bays short spells so
