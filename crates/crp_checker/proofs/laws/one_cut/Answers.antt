use Rattle.crp_checker.proofs.OneCut.{one_cut_only}
use Rattle.crp_checker.proofs.laws.one_cut.Goals as goal

pub returns : goal.returns
returns c = one_cut_only
