-- The lines so far and those that follow.
use Rattle.std.proofs.Common.{◌≡◌, ◌+◌, ◌≤◌, suc, length}
use Rattle.crp_follow.specs.Lines.{pieces_of}
use Rattle.crp_follow.proofs.lines.line_behind.Given as goal

abbrev pub invariant-loop-rest : goal.invariant-loop-rest
invariant-loop-rest l = record {
  all : l.line + length (pieces_of l.rest) ≡ suc (length (pieces_of l.bytes));
  room : l.line + length l.rest ≤ suc (length l.bytes);
}

abbrev pub decreases-loop-rest : goal.decreases-loop-rest
decreases-loop-rest l = length l.rest
