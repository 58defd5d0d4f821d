use Rattle.crp_follow.specs.declared.fault.FollowFault.TheVariants.{NoBay}
use Rattle.crp_callers.proofs.audited_runs.runs_name_their_bays.Goals as goal

pub returns : goal.returns
returns c = λ chosen seen made line is. c.runs_are_followed.ensures.faultless chosen seen made (NoBay line) is
