-- The lines of the moves so far are added.
use Rattle.std.proofs.Common.{◌≡◌, ◌++◌, take}
use Rattle.crp_follow.specs.Stated.{moves_of}
use Rattle.crp_follow.specs.Written.{lines_of}
use Rattle.crp_follow.proofs.rewriting.push_moves.Given as goal

abbrev pub invariant-loop-stated : goal.invariant-loop-stated
invariant-loop-stated l = l.text.items ≡ l.fn.text.items ++ lines_of (moves_of (take l.stated-index l.moves))
