-- The name without the pieces so far.
use Rattle.std.proofs.Common.{◌≡◌, ◌≤◌, length}
use Rattle.crp_picture.specs.Names.{behind}
use Rattle.crp_picture.proofs.escaping.last_four.Given as goal

abbrev pub invariant-loop-i : goal.invariant-loop-i
invariant-loop-i l = record {
  value : l.rest ≡ behind l.i l.name;
  short : length l.rest ≤ length l.name;
}
