-- The bays so far are added with their moves as they stand.
use Rattle.crp_follow.proofs.RewritingSteps.{SoFar}
use Rattle.crp_follow.proofs.rewriting.push_bays.Given as goal

abbrev pub invariant-loop-bay : goal.invariant-loop-bay
invariant-loop-bay l = SoFar l.bays l.bay-index l.fn.text.items l.text.items l.decided
