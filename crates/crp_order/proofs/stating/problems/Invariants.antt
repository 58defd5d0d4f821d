-- The problems of the bays so far.
use Rattle.std.proofs.Common.{◌≡◌, map, take}
use Rattle.std.specs.Prelude.{filter}
use Rattle.crp_order.specs.BayProblems.{is_called, bay_problem_of}
use Rattle.crp_order.proofs.stating.problems.Given as goal

abbrev pub invariant-loop-i : goal.invariant-loop-i
invariant-loop-i l = l.problems.items ≡ map (bay_problem_of l.yard.sizes l.sequence) (filter (is_called l.sequence) (take l.i l.yard.bays))
