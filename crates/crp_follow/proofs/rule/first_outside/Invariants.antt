-- The moves from this one on are judged.
use Rattle.std.proofs.Common.{◌≤◌, drop, length}
use Rattle.crp_follow.specs.Rule.{AreJudged}
use Rattle.crp_follow.proofs.rule.first_outside.Given as goal

abbrev pub invariant-loop-i : goal.invariant-loop-i
invariant-loop-i l = record { within : l.i ≤ length l.moves; judged : AreJudged (drop l.i l.moves) l.judged }

abbrev pub decreases-loop-i : goal.decreases-loop-i
decreases-loop-i l = l.i
