-- The moves of the bays so far are counted.
use Rattle.std.proofs.Common.{take}
use Rattle.crp_follow.specs.Stated.{moves_of}
use Rattle.crp_follow.proofs.FirstMoves.{AreCounted}
use Rattle.crp_follow.proofs.behind.move_counts.Given as goal

abbrev pub invariant-loop-bay : goal.invariant-loop-bay
invariant-loop-bay l = AreCounted (λ b. record { bay = b.stated.bay; moves = moves_of b.stated.moves }) l.counts.items (take l.bay-index l.followed.bays.items)
