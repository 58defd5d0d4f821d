-- The moves so far, and what is not read behind them.
use Rattle.std.proofs.Common.{◌≡◌, ◌+◌, ◌≤◌, ◌++◌, length, map}
use Rattle.std.specs.List.{AllByRecursion}
use Rattle.crp_said.specs.Spelled.{CanBeStated}
use Rattle.crp_follow.specs.Stated.{moves_of, move_line}
use Rattle.crp_follow.specs.Views.{unread_lines}
use Rattle.crp_follow.proofs.stating.moves_from.Given as goal

abbrev pub invariant-loop-moves : goal.invariant-loop-moves
invariant-loop-moves l = record {
  lines : unread_lines l.fn.unread ≡ map move_line l.moves.items ++ unread_lines l.rest;
  stated : AllByRecursion CanBeStated (moves_of l.moves.items);
  room : l.rest.first + length l.rest.bytes.now ≤ l.fn.unread.first + length l.fn.unread.bytes.now;
  fewer : length l.rest.bytes.now ≤ length l.fn.unread.bytes.now;
}

abbrev pub decreases-loop-moves : goal.decreases-loop-moves
decreases-loop-moves l = length l.rest.bytes.now
