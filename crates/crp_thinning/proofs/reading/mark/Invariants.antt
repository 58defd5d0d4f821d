use Rattle.std.proofs.Common.{◌≡◌, ◌+◌, ◌≤◌, ℕ, take, get_or}
use Rattle.crp_plan.proofs.Lists.{times}
use Rattle.crp_thinning.proofs.reading.mark.Given as goal

abbrev pub invariant-loop-rank : goal.invariant-loop-rank
invariant-loop-rank l = record {
  counted : (x : ℕ) → get_or l.seen x 0 ≡ get_or l.initial.seen x 0 + times x (take l.rank-index l.ranks);
  few : (x : ℕ) → get_or l.seen x 0 ≤ 1;
}
