use Rattle.std.proofs.Common.{All, take}
use Rattle.crp_tree.specs.Parts.{IsKeptPart}
use Rattle.crp_gather.specs.Gathers.{Belongs}
use Rattle.crp_gather.proofs.gathering.first_stranger.Given as goal

abbrev pub invariant-loop-i : goal.invariant-loop-i
invariant-loop-i l = record {
  belong : All (Belongs l.problem l.parts) (take l.i l.parts);
  kept : All IsKeptPart (take l.i l.parts);
}
