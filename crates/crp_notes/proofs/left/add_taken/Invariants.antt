-- Those of the moves so far, beside those that were there.
use Rattle.std.proofs.Common.{List, ◌++◌, take}
use Rattle.crp_said.specs.declared.moves.SaidMove.{SaidMove as Move}
use Rattle.crp_follow.specs.Stated.{moves_of}
use Rattle.crp_notes.specs.Left.{is_taken}
use Rattle.crp_notes.specs.LeftNames.{HasThose}
use Rattle.crp_notes.proofs.left.add_taken.Given as goal

abbrev pub invariant-loop-stated : goal.invariant-loop-stated
invariant-loop-stated l = (before : List Move) → HasThose (is_taken before) l.initial.names.keys → HasThose (is_taken (before ++ moves_of (take l.stated-index l.moves))) l.names.keys
