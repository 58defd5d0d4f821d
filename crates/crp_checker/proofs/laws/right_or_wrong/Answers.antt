use Rattle.crp_checker.proofs.OneRefusal.{not_wrong, one_wrong}
use Rattle.crp_checker.proofs.laws.right_or_wrong.Goals as goal

pub returns : goal.returns
returns c = record { apart = not_wrong; one = one_wrong }
