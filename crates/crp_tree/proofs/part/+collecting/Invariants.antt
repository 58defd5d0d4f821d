use Rattle.std.proofs.Common.{◌≡◌, ◌+◌, ◌-◌, ◌*◌, ◌++◌, length, take}
use Rattle.crp_tree.specs.Trees.{given_names}
use Rattle.crp_tree.specs.Listed.{nodes_below}
use Rattle.crp_tree.specs.Symbols.{all_symbols, some_trees}
use Rattle.crp_tree.proofs.part.+collecting.Given as goal

abbrev pub invariant-collect_below-loop-row : goal.invariant-collect_below-loop-row
invariant-collect_below-loop-row l = record {
  half : l.fn.rest ≡ all_symbols (take l.row-index (some_trees l.count l.fn.rest)) ++ l.rest;
  names : l.names.items ≡ l.fn.names.items ++ given_names (nodes_below l.name l.place.place (take l.row-index l.rows) (take l.row-index (some_trees l.count l.fn.rest)));
}

-- each name goes on by one row, and none has more than 8
abbrev pub decreases-collect : goal.decreases-collect
decreases-collect l = 2 * (8 - length l.name.now) + 1

abbrev pub decreases-collect_below : goal.decreases-collect_below
decreases-collect_below l = 2 * (8 - length l.name.now)
