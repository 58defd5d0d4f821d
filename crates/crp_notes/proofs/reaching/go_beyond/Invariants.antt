-- None of the moves so far goes beyond, so what is left decides.
use Rattle.std.proofs.Common.{◌≡◌, [], take, drop}
use Rattle.crp_notes.specs.Beyond.{go_beyond}
use Rattle.crp_notes.proofs.reaching.go_beyond.Given as goal

abbrev pub invariant-loop-i : goal.invariant-loop-i
invariant-loop-i l = go_beyond l.row l.tier l.problem.stacks (take l.i l.moves) (drop l.i l.moves) ≡ go_beyond l.row l.tier l.problem.stacks [] l.moves
