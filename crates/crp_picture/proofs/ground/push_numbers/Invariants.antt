-- The tiers so far are added.
use Rattle.std.proofs.Common.{◌≡◌, ◌++◌}
use Rattle.crp_picture.specs.Pictures.{tier_numbers}
use Rattle.crp_picture.proofs.ground.push_numbers.Given as goal

abbrev pub invariant-loop-i : goal.invariant-loop-i
invariant-loop-i l = l.text.items ≡ l.initial.text.items ++ tier_numbers l.i
