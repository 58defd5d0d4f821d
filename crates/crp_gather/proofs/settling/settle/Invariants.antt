use Rattle.crp_gather.proofs.PartsSettled.{AreHalfSettled}
use Rattle.crp_gather.proofs.settling.settle.Given as goal

abbrev pub invariant-loop-part : goal.invariant-loop-part
invariant-loop-part l = AreHalfSettled l.plan.path l.part-items l.part-index l.parts.items
