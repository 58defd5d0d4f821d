use Rattle.std.proofs.Common.{arith}
use Rattle.std.proofs.lemmas.Grind.{common_steps}
use Rattle.crp_movins.proofs.SlotSteps.{six-slot, seven-slot}
use Rattle.crp_movins.proofs.slot.slot_of.Goals as goal
use Rattle.crp_movins.proofs.slot.slot_of.Goals.{in-6, in-7}

pub returns : goal.returns
returns c =
    elim c.match-text.branch [
      | in-6 w ↦ let e = six-slot c.args.text.now (omega arith) in grind (arith, common_steps, e)
      | in-7 w ↦ let e = seven-slot c.args.text.now (omega arith) in grind (arith, common_steps, e)
    ]
