use Rattle.std.proofs.Common.{◌≡◌, ◌≤◌, drop}
use Rattle.crp_prices.specs.Columns.{from_on}
use Rattle.crp_prices.proofs.table.next_from.Given as goal

abbrev pub invariant-loop-i : goal.invariant-loop-i
invariant-loop-i l = record { after : l.index ≤ l.i; from : from_on l.turn (drop l.i l.jobs) ≡ from_on l.turn (drop l.index l.jobs) }
