use Rattle.crp_follow.specs.declared.fault.FollowFault.TheVariants.{NoBay}
use Rattle.crp_callers.proofs.audited_runs.headlines_name_their_bays.Goals as goal

pub returns : goal.returns
returns c = λ sizes loading names list message mode h line is listed ordered sequenced.
    c.headlines_are_followed.ensures.faultless sizes loading names list message mode h (NoBay line) is listed ordered sequenced
