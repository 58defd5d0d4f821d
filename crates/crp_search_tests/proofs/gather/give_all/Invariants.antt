use Rattle.std.proofs.Common.{◌≡◌, ◌∷◌, replicate}
use Rattle.crp_row.specs.Symbol as symbol
use Rattle.crp_search_tests.proofs.gather.give_all.Given as goal

abbrev pub invariant-loop : goal.invariant-loop
invariant-loop l = l.row.symbols ≡ symbol.Branch l.end ∷ replicate l.counter symbol.Given
