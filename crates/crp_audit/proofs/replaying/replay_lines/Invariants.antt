use Rattle.std.proofs.Common.{map, length}
use Rattle.crp_plan.specs.Bay.{start}
use Rattle.crp_audit.proofs.SoFar.{AreFollowed}
use Rattle.crp_audit.proofs.replaying.replay_lines.Given as goal

abbrev pub invariant-loop-rest : goal.invariant-loop-rest
invariant-loop-rest l = AreFollowed (map (λ name. name.items) l.names) (start l.problem) l.lines l.walk l.path.items l.rest

abbrev pub decreases-loop-rest : goal.decreases-loop-rest
decreases-loop-rest l = length l.rest
