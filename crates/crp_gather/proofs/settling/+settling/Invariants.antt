use Rattle.std.proofs.Common.{◌≡◌, ◌+◌, ◌-◌, ◌*◌, [], ◌∷◌, ◌++◌, length, take}
use Rattle.crp_row.specs.Symbol as symbol
use Rattle.crp_tree.specs.Symbols.{all_symbols, some_trees}
use Rattle.crp_gather.proofs.TreesSettled.{BelowWritten}
use Rattle.crp_gather.proofs.settling.+settling.Given as goal

-- a path of a problem has at most 672 rows
abbrev pub decreases-settle_tree : goal.decreases-settle_tree
decreases-settle_tree l = 2 * (673 - length l.path.now.items) + 1

abbrev pub decreases-settle_below : goal.decreases-settle_below
decreases-settle_below l = 2 * (673 - length l.path.now.items)

abbrev pub invariant-settle_below-loop-row : goal.invariant-settle_below-loop-row
invariant-settle_below-loop-row l = record {
  path : l.path.items ≡ l.fn.path.items;
  place : l.place ≡ l.fn.place;
  half : l.fn.rest ≡ all_symbols (take l.row-index (some_trees l.count l.fn.rest)) ++ l.rest;
  below : BelowWritten l.problem l.plan.path l.fn.path.items l.fn.place.place l.rows (some_trees l.count l.fn.rest) l.row-index (l.fn.settled.symbols ++ symbol.Branch l.count ∷ []) l.settled.symbols l.floor;
}
