use Rattle.crp_movins.proofs.Least.{last-last, last-none}
use Rattle.crp_movins.proofs.laws.last_is_last.Goals as goal

pub returns : goal.returns
returns c = record { found = last-last; none = last-none }
