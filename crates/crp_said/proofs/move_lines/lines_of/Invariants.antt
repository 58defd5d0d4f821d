-- The other moves go on from here, and what they state stands behind the lines so far.
use Rattle.std.proofs.Common.{map, drop}
use Rattle.crp_plan.specs.Bay.{start}
use Rattle.crp_said.proofs.LinesSoFar.{AreLinesSoFar}
use Rattle.crp_said.proofs.move_lines.lines_of.Given as goal

abbrev pub invariant-loop-step : goal.invariant-loop-step
invariant-loop-step l = AreLinesSoFar (map (λ name. name.items) l.names) (start l.plan.problem) l.moves l.walk (drop l.step-index l.moves) l.text.items
