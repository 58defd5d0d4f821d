use Rattle.std.proofs.Common.{◌++◌, refl}
use Rattle.crp_plan.proofs.OneFault.{at_front}
use Rattle.crp_plan.proofs.laws.paths_have_fronts.Goals as goal

pub returns : goal.returns
returns c = λ p path more t is a. at_front p path more (path ++ more) t is a refl
