use Rattle.crp_loading.proofs.SlotSteps.{slots}
use Rattle.crp_loading.proofs.laws.slots_are_as_ordered.Goals as goal

pub returns : goal.returns
returns c = slots
