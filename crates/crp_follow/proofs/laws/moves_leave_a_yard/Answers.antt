use Rattle.crp_follow.proofs.YardBehind.{still_a_yard, one_yard}
use Rattle.crp_follow.proofs.laws.moves_leave_a_yard.Goals as goal

pub returns : goal.returns
returns c = record { yard = still_a_yard; one = one_yard }
