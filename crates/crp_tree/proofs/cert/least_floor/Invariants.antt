use Rattle.std.proofs.Common.{◌≤◌, take, Contains, All}
use Rattle.crp_tree.specs.Parts.{floors_of}
use Rattle.crp_tree.proofs.cert.least_floor.Given as goal

abbrev pub invariant-loop-part : goal.invariant-loop-part
invariant-loop-part l = record {
  stands : Contains (floors_of l.parts) l.lower;
  lowest : All (λ x. l.lower ≤ x.floor) (take l.part-index l.parts);
}
