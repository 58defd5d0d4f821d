-- The pieces so far and those that are left.
use Rattle.std.proofs.Common.{◌≡◌, ◌+◌, ◌≤◌, length}
use Rattle.bstr.specs.Utf8.{pieces}
use Rattle.crp_picture.proofs.escaping.count_pieces.Given as goal

abbrev pub invariant-loop-rest : goal.invariant-loop-rest
invariant-loop-rest l = record {
  all : l.count + length (pieces l.rest) ≡ length (pieces l.name);
  room : l.count + length l.rest ≤ length l.name;
}

abbrev pub decreases-loop-rest : goal.decreases-loop-rest
decreases-loop-rest l = length l.rest
