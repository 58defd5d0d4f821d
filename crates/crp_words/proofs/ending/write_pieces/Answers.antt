use Rattle.std.proofs.Common.{inr}
use Rattle.crp_plan.proofs.Interruptions.{has_failed}
use Rattle.crp_words.proofs.ending.write_pieces.Goals as goal

pub returns-in_default : goal.returns-in_default
returns-in_default g c = inr (c.in_default.ensures.part, has_failed c.in_default.ensures.gave_up)
