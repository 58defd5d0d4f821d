use Rattle.std.proofs.Common.{◌≡◌, ◌++◌, length}
use Rattle.std.specs.List.{flat_map}
use Rattle.crp_tree.specs.Spots.{symbol_text}
use Rattle.crp_tree.specs.Symbols.{symbols}
use Rattle.crp_cert.proofs.writing.push_tree.Given as goal

abbrev pub invariant-loop-kind : goal.invariant-loop-kind
invariant-loop-kind l = l.text.items ++ flat_map symbol_text l.rest ≡ l.fn.text.items ++ flat_map symbol_text (symbols l.tree)

abbrev pub decreases-loop-kind : goal.decreases-loop-kind
decreases-loop-kind l = length l.rest
