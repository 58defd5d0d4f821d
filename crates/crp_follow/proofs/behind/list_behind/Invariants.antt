-- The list of the bays so far.
use Rattle.std.proofs.Common.{map}
use Rattle.crp_follow.specs.Behind.{first_moves}
use Rattle.crp_follow.specs.Views.{bay_followed}
use Rattle.crp_follow.proofs.BehindSteps.{IsListSoFar}
use Rattle.crp_follow.proofs.behind.list_behind.Given as goal

abbrev pub invariant-loop-i : goal.invariant-loop-i
invariant-loop-i l = IsListSoFar l.yard (first_moves l.counts (map bay_followed l.followed.bays.items)) l.i l.list
