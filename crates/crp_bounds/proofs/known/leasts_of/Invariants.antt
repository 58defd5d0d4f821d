use Rattle.std.proofs.Common.{◌≡◌, ℕ, suc, ◌-◌, ◌<◌, List, length, take, get_or, slice_get, Some}
use Rattle.crp_bounds.specs.Leasts.{least_ordered}
use Rattle.crp_bounds.proofs.known.leasts_of.Given as goal

abbrev pub invariant-loop-row : goal.invariant-loop-row
invariant-loop-row l = record {
  known : (r i : ℕ) (stack : List ℕ) → r < l.row - 1 → slice_get l.position.place.stacks r ≡ Some stack → i < length stack → get_or l.leasts (get_or stack i 0) 0 ≡ least_ordered l.position.place.ordered (take (suc i) stack);
  long : length l.leasts ≡ 97;
}
