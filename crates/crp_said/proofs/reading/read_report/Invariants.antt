use Rattle.std.proofs.Common.{◌≡◌, ◌≢◌, ◌++◌, [], map, length}
use Rattle.std.specs.List.{AllByRecursion}
use Rattle.crp_said.specs.Spelled.{IsMoveBody, IsSayable, front_text, BeginsWithLine}
use Rattle.crp_said.specs.Views.{bay_as}
use Rattle.crp_said.proofs.reading.read_report.Given as goal

abbrev pub invariant-loop-bay : goal.invariant-loop-bay
invariant-loop-bay l = record {
  sayable : AllByRecursion IsSayable (map bay_as l.bays.items);
  text : l.text ≡ front_text l.numbers (map bay_as l.bays.items) ++ l.rest;
  no_move : map bay_as l.bays.items ≢ [] → ¬ BeginsWithLine IsMoveBody l.rest;
}

abbrev pub decreases-loop-bay : goal.decreases-loop-bay
decreases-loop-bay l = length l.rest
