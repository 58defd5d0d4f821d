-- The rows so far are there.
use Rattle.std.proofs.Common.{◌≡◌}
use Rattle.crp_picture.specs.Pictures.{row_numbers}
use Rattle.crp_picture.proofs.ground.row_numbers.Given as goal

abbrev pub invariant-loop-i : goal.invariant-loop-i
invariant-loop-i l = l.text.items ≡ row_numbers l.i
