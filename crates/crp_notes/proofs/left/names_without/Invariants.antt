-- Those of the sequence so far.
use Rattle.std.proofs.Common.{List, take}
use Rattle.crp_said.specs.declared.moves.SaidMove.{SaidMove as Move}
use Rattle.crp_notes.specs.Left.{is_taken, is_left}
use Rattle.crp_notes.specs.LeftNames.{HasThose}
use Rattle.crp_notes.proofs.left.names_without.Given as goal

abbrev pub invariant-loop-container : goal.invariant-loop-container
invariant-loop-container l = (moves : List Move) → HasThose (is_taken moves) l.taken.keys → HasThose (is_left (take l.container-index l.container-items) moves) l.names.keys
