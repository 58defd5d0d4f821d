use Rattle.std.proofs.Common.{◌≡◌, ◌+◌, ◌<◌, ◌≤◌, suc, false, drop, length, count_by, nat_lt}
use Rattle.crp_plan.specs.Rows.{holds}
use Rattle.crp_thinning.proofs.scanning.cut_at_rank.Given as goal

abbrev pub invariant-loop-kept : goal.invariant-loop-kept
invariant-loop-kept l = record {
  within : l.kept < length l.stack;
  free : holds l.rank (drop (suc l.kept) l.stack) ≡ false;
  counted : l.more ≡ count_by (nat_lt l.most) (drop (suc l.kept) l.stack);
  few : l.more + suc l.kept ≤ length l.stack;
}

abbrev pub decreases-loop-kept : goal.decreases-loop-kept
decreases-loop-kept l = l.kept
