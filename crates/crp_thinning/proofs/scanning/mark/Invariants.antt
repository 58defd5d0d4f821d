use Rattle.std.proofs.Common.{◌≡◌, ℕ, true, false, take, get_or}
use Rattle.crp_plan.specs.Rows.{holds}
use Rattle.crp_thinning.proofs.scanning.mark.Given as goal

abbrev pub invariant-loop-rank : goal.invariant-loop-rank
invariant-loop-rank l = record {
  marked : (x : ℕ) → holds x (take l.rank-index l.ranks) ≡ true → get_or l.row_of x 0 ≡ l.row;
  others : (x : ℕ) → holds x (take l.rank-index l.ranks) ≡ false → get_or l.row_of x 0 ≡ get_or l.initial.row_of x 0;
}
