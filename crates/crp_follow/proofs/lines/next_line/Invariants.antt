-- No line so far that is not empty.
use Rattle.std.proofs.Common.{◌≡◌, ◌+◌, ◌≤◌, length}
use Rattle.crp_follow.specs.Lines.{pieces_of, numbered}
use Rattle.crp_follow.specs.Views.{unread_lines}
use Rattle.crp_follow.proofs.lines.next_line.Given as goal

abbrev pub invariant-loop-rest : goal.invariant-loop-rest
invariant-loop-rest l = record {
  all : unread_lines l.fn.unread ≡ numbered l.number (pieces_of l.rest);
  room : l.number + length l.rest ≤ l.fn.unread.first + length l.fn.unread.bytes.now;
  fewer : length l.rest ≤ length l.fn.unread.bytes.now;
}

abbrev pub decreases-loop-rest : goal.decreases-loop-rest
decreases-loop-rest l = length l.rest
