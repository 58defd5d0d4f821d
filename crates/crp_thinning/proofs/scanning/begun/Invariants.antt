use Rattle.std.proofs.Common.{◌≡◌, ℕ, ◌-◌, ◌<◌, ◌≤◌, max, [], drop, length, get_or}
use Rattle.crp_bounds.specs.Leasts.{least_ordered}
use Rattle.crp_bounds.specs.Offers.{offers, greatest}
use Rattle.crp_thinning.proofs.scanning.begun.Given as goal

abbrev pub invariant-loop-row : goal.invariant-loop-row
invariant-loop-row l = record {
  done : (r : ℕ) → r < l.row - 1 → get_or l.left r 0 ≡ length (get_or l.stacks r []);
  rest : (r : ℕ) → l.row - 1 ≤ r → get_or l.left r 0 ≡ 0;
  leasts : (r : ℕ) → r < l.row - 1 → get_or l.leasts r 0 ≡ least_ordered l.ordered (get_or l.stacks r []);
  long : length l.left ≡ 16;
  leasts_long : length l.leasts ≡ 16;
  most : max l.most (greatest (drop (l.row - 1) (offers l.ordered l.heights l.stacks))) ≡ greatest (offers l.ordered l.heights l.stacks);
}
