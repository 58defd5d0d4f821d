use Rattle.std.proofs.Common.{subst}
use Rattle.crp_checker.specs.Fed.{HasComeIf}
use Rattle.crp_checker.proofs.checker.Checker.bay.Goals as goal

pub returns-clause-exact : goal.returns-clause-exact
returns-clause-exact c wanted bytes read = c.bay_at.ensures wanted bytes (subst (HasComeIf wanted bytes) c.in-Some.is read.1)
