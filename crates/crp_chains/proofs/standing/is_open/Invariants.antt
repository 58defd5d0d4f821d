use Rattle.std.proofs.Common.{◌≡◌, ◌+◌, ◌≤◌, ◌-◌, length, drop}
use Rattle.crp_bounds.specs.Bounds.{holds_lower}
use Rattle.crp_chains.specs.Chains.{standing_at}
use Rattle.crp_chains.proofs.standing.is_open.Given as goal

abbrev pub invariant-loop-count : goal.invariant-loop-count
invariant-loop-count l = record {
  within : l.count ≤ length l.stack;
  many : length (standing_at l.blocker.turn l.stack) ≡ l.count + length (standing_at l.blocker.turn (drop l.count l.stack));
  lower : holds_lower l.ordered l.blocker.rank (standing_at l.blocker.turn l.stack) ≡ holds_lower l.ordered l.blocker.rank (standing_at l.blocker.turn (drop l.count l.stack));
}

abbrev pub decreases-loop-count : goal.decreases-loop-count
decreases-loop-count l = length l.stack - l.count
