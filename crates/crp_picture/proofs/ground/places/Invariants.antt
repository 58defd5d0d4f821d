-- The rows so far are there.
use Rattle.std.proofs.Common.{◌≡◌}
use Rattle.crp_picture.specs.Pictures.{places_to}
use Rattle.crp_picture.proofs.ground.places.Given as goal

abbrev pub invariant-loop-i : goal.invariant-loop-i
invariant-loop-i l = l.text.items ≡ places_to l.tiers l.heights l.i
