use Rattle.std.proofs.Common.{◌≡◌, ℕ, ◌<◌, ◌≤◌, false, [], length, slice_index}
use Rattle.crp_prices.specs.Columns.{entry}
use Rattle.crp_prices.proofs.columns.with_top.Given as goal

abbrev pub invariant-loop-room : goal.invariant-loop-room
invariant-loop-room l = record { rooms : length l.column ≡ 9; some : 1 ≤ l.room; each : (k : ℕ) → k < l.room → slice_index l.column k ≡ entry false l.paid l.after [] [] k }
