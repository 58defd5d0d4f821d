-- Those of the rows so far.
use Rattle.std.proofs.Common.{◌≡◌, ℕ, List, Some, map, slice_get, take}
use Rattle.crp_yard.specs.Inventory.{StackedBay}
use Rattle.crp_said.specs.declared.moves.SaidMove.{SaidMove as Move}
use Rattle.crp_notes.specs.Left.{is_left, left_in}
use Rattle.crp_notes.specs.LeftNames.{HasThose}
use Rattle.crp_notes.proofs.left.left_in.Given as goal

abbrev pub invariant-loop-i : goal.invariant-loop-i
invariant-loop-i l = (b : StackedBay) (sequence : List (List ℕ)) (moves : List Move) → slice_get l.yard.bays l.bay ≡ Some b → HasThose (is_left sequence moves) l.names.keys
    → map (λ name. name.now) l.found.items ≡ left_in sequence moves (take l.i b.1)
