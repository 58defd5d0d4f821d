-- None of the moves so far takes a container.
use Rattle.std.proofs.Common.{◌≡◌, drop}
use Rattle.crp_picture.specs.Frames.{first_taken}
use Rattle.crp_picture.proofs.steps.first_taken.Given as goal

abbrev pub invariant-loop-stated : goal.invariant-loop-stated
invariant-loop-stated l = first_taken (drop l.stated-index l.moves) ≡ first_taken l.moves
