use Rattle.std.proofs.Common.{◌≡◌, List, ◌∷◌, length, take, ◌++◌}
use Rattle.std.specs.Prelude.{codes}
use Rattle.std.specs.List.{flat_map}
use Rattle.crp_bay.specs.Positions.{targets}
use Rattle.crp_row.specs.Symbol as symbol
use Rattle.crp_tree.specs.Tree.{Tree, row}
use Rattle.crp_tree.specs.Symbols.{symbols_of_each}
use Rattle.crp_tree.specs.Listed.{AreFit}
use Rattle.crp_cert.specs.Script.{symbols_of}
use Rattle.crp_cert.proofs.trees.+read_symbols.Given as goal

abbrev pub decreases-read_symbols : goal.decreases-read_symbols
decreases-read_symbols l = length l.bytes.now

abbrev pub invariant-loop-target : goal.invariant-loop-target
invariant-loop-target l = record {
  same : l.place ≡ l.fn.place;
  rows : l.target-items ≡ targets l.fn.place.place;
  trees : List Tree;
  match : AreFit l.fn.place.place (take l.target-index l.target-items) trees;
  text : l.bytes ≡ (codes "X" ++ flat_map symbols_of trees) ++ l.rest;
  kept : l.row.symbols ≡ l.fn.row.symbols ++ symbol.Branch (length l.target-items) ∷ symbols_of_each (row trees);
}
