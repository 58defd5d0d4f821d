-- The rows so far are added.
use Rattle.std.proofs.Common.{◌≡◌, ◌++◌, map}
use Rattle.crp_picture.specs.Pictures.{pieces_to}
use Rattle.crp_picture.specs.Views.{cell_as}
use Rattle.crp_picture.proofs.labels.push_pieces.Given as goal

abbrev pub invariant-loop-i : goal.invariant-loop-i
invariant-loop-i l = l.text.items ≡ l.initial.text.items ++ pieces_to l.wording (map cell_as l.cells) l.tier l.i
