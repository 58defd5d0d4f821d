-- The moves so far lead to these rows.
use Rattle.std.proofs.Common.{take}
use Rattle.crp_follow.specs.Crane.{Leads}
use Rattle.crp_follow.specs.Stated.{moves_of}
use Rattle.crp_follow.proofs.moving.make_moves.Given as goal

abbrev pub invariant-loop-stated : goal.invariant-loop-stated
invariant-loop-stated l = Leads l.heights l.initial.rows.items (moves_of (take l.stated-index l.moves)) l.rows.items
