-- The tiers so far are added.
use Rattle.std.proofs.Common.{◌≡◌, ◌++◌}
use Rattle.crp_picture.specs.Pictures.{places_of_row}
use Rattle.crp_picture.proofs.ground.push_row.Given as goal

abbrev pub invariant-loop-i : goal.invariant-loop-i
invariant-loop-i l = l.text.items ≡ l.initial.text.items ++ places_of_row l.tiers l.row l.i
