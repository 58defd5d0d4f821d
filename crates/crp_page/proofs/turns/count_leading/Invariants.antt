-- The moves so far have the turn.
use Rattle.std.proofs.Common.{◌≡◌, ◌+◌, drop, map}
use Rattle.crp_loading.specs.Views.{recorded}
use Rattle.crp_page.specs.Turns.{leading}
use Rattle.crp_page.proofs.turns.count_leading.Given as goal

abbrev pub invariant-loop-i : goal.invariant-loop-i
invariant-loop-i l = leading l.number (map recorded l.moves) ≡ l.i + leading l.number (map recorded (drop l.i l.moves))
