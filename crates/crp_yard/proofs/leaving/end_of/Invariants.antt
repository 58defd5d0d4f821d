-- The other moves lead on from here.
use Rattle.std.proofs.Common.{drop}
use Rattle.crp_yard.proofs.LeavingSteps.{IsOnTheWay}
use Rattle.crp_yard.proofs.leaving.end_of.Given as goal

abbrev pub invariant-loop-step : goal.invariant-loop-step
invariant-loop-step l = IsOnTheWay l.plan.problem l.step-items l.walk (drop l.step-index l.step-items)
