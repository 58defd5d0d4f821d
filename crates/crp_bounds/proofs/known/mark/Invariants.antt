use Rattle.std.proofs.Common.{◌≡◌, ℕ, suc, ◌<◌, false, take, get_or}
use Rattle.crp_plan.specs.Rows.{holds}
use Rattle.crp_bounds.specs.Leasts.{least_ordered}
use Rattle.crp_bounds.proofs.known.mark.Given as goal

abbrev pub invariant-loop-rank : goal.invariant-loop-rank
invariant-loop-rank l = record {
  least_is : l.least ≡ least_ordered l.ordered (take l.rank-index l.ranks);
  known : (i : ℕ) → i < l.rank-index → get_or l.leasts (get_or l.ranks i 0) 0 ≡ least_ordered l.ordered (take (suc i) l.ranks);
  others : (x : ℕ) → holds x (take l.rank-index l.ranks) ≡ false → get_or l.leasts x 0 ≡ get_or l.initial.leasts x 0;
}
