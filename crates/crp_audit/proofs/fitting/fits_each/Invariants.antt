use Rattle.std.proofs.Common.{◌≡◌, List, length, map}
use Rattle.std.specs.List.{AllByRecursion}
use Rattle.crp_yard.specs.Inventory.{StackedBay}
use Rattle.crp_order.specs.BayProblems.{IsNamedProblem, bay_problem_of}
use Rattle.crp_said.specs.Views.{bay_as}
use Rattle.crp_audit.specs.Headline.{Handed}
use Rattle.crp_audit.proofs.Fits.{AreLeft}
use Rattle.crp_audit.proofs.fitting.fits_each.Given as goal

abbrev pub invariant-loop-next : goal.invariant-loop-next
invariant-loop-next l = record {
  named : AllByRecursion IsNamedProblem l.later;
  left : (h : Handed) (bays : List StackedBay) → l.stated ≡ map (bay_problem_of h.yard.sizes h.sequence) bays → AreLeft h bays (map bay_as l.said) l.later (map bay_as l.more);
}

abbrev pub decreases-loop-next : goal.decreases-loop-next
decreases-loop-next l = length l.later
