use Rattle.std.proofs.Common.{◌≡◌, ◌≤◌, ◌-◌, suc, min, drop}
use Rattle.crp_prices.specs.AllJobs.{turn_among}
use Rattle.crp_prices.proofs.all_jobs.turn_of.Given as goal

abbrev pub invariant-loop-row : goal.invariant-loop-row
invariant-loop-row l = record {
  some : 1 ≤ l.row;
  few : l.turn ≤ suc l.position.place.ordered;
  is : min l.turn (turn_among l.position.place.ordered l.rank (drop (l.row - 1) l.position.place.stacks)) ≡ turn_among l.position.place.ordered l.rank l.position.place.stacks;
}
