use Rattle.std.proofs.Common.{◌≡◌, ◌++◌, take, drop}
use Rattle.crp_prices.specs.Prices.{standing_at}
use Rattle.crp_prices.proofs.row.standing.Given as goal

abbrev pub invariant-loop-i : goal.invariant-loop-i
invariant-loop-i l = take l.i l.stack ++ standing_at l.turn (drop l.i l.stack) ≡ standing_at l.turn l.stack
