use Rattle.std.proofs.Common.{◌≡◌, drop}
use Rattle.crp_plan.specs.Bay.{IsProblem}
use Rattle.crp_bay.specs.Positions.{walk, at}
use Rattle.crp_tree.proofs.name.Name.bounded.Given as goal

abbrev pub invariant-loop-row : goal.invariant-loop-row
invariant-loop-row l = IsProblem l.problem × (walk l.bounded.place (drop l.row-index l.self) ≡ at l.problem l.self)
