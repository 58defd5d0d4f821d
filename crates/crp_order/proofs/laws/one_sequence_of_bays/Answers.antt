use Rattle.std.proofs.Common.{◌∙◌, ap, sym}
use Rattle.crp_order.specs.OfBays.{of_bays}
use Rattle.crp_order.proofs.StowageSteps.{one_sequence}
use Rattle.crp_order.proofs.laws.one_sequence_of_bays.Goals as goal

pub returns : goal.returns
returns c = λ mode names yard orders first second a b. a.chosen ∙ ap (of_bays names yard) (one_sequence mode orders a.whole b.whole a.ordered b.ordered) ∙ sym b.chosen
