-- The moves so far are added.
use Rattle.std.proofs.Common.{◌≡◌, ◌++◌, take}
use Rattle.std.specs.Prelude.{flat_map}
use Rattle.crp_follow.specs.Stated.{moves_of}
use Rattle.crp_page.specs.Words.{move_to_slot}
use Rattle.crp_page.proofs.figures.push_moves.Given as goal

abbrev pub invariant-loop-stated : goal.invariant-loop-stated
invariant-loop-stated l = l.text.items ≡ l.initial.text.items ++ flat_map (move_to_slot l.ship) (moves_of (take l.stated-index l.moves))
