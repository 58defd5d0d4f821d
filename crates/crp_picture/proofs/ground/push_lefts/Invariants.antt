-- The tiers so far are added.
use Rattle.std.proofs.Common.{◌≡◌, ◌++◌}
use Rattle.crp_picture.specs.Pictures.{tier_lefts}
use Rattle.crp_picture.proofs.ground.push_lefts.Given as goal

abbrev pub invariant-loop-i : goal.invariant-loop-i
invariant-loop-i l = l.text.items ≡ l.initial.text.items ++ tier_lefts l.i
