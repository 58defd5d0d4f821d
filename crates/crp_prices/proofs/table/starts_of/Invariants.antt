use Rattle.std.proofs.Common.{◌≡◌, ◌<◌, ◌≤◌, ◌-◌, ℕ, length, drop, slice_index}
use Rattle.crp_prices.specs.Columns.{from_on}
use Rattle.crp_prices.proofs.table.starts_of.Given as goal

abbrev pub invariant-loop-turn : goal.invariant-loop-turn
invariant-loop-turn l = record {
  each : length l.starts ≡ 98;
  within : l.at ≤ length l.jobs;
  from : drop l.at l.jobs ≡ from_on (l.turn - 1) l.jobs;
  all_within : (v : ℕ) → v < l.turn → slice_index l.starts v ≤ length l.jobs;
  begins : (v : ℕ) → v < l.turn → drop (slice_index l.starts v) l.jobs ≡ from_on v l.jobs;
}
