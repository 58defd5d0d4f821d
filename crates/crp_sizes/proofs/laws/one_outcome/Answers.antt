use Rattle.crp_sizes.proofs.Outcomes.{some_outcome}
use Rattle.crp_sizes.proofs.SizeSteps.{one_first, never_both}
use Rattle.crp_sizes.proofs.laws.one_outcome.Goals as goal

pub returns : goal.returns
returns c = record { some = some_outcome; fault = one_first; either = never_both }
