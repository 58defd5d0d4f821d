-- The bytes so far are the ranks so far, and where no ranks are behind them, all of the bytes are none.
use Rattle.std.proofs.Common.{◌≡◌, ◌++◌, length}
use Rattle.std.specs.Prelude.{flat_map}
use Rattle.std.specs.List.{AllByRecursion}
use Rattle.crp_json.specs.Entries.{rank_words, AreMoreRanks, IsSmallRank}
use Rattle.crp_json.proofs.chain_lines.read_more.Given as goal

abbrev pub invariant-loop-rest : goal.invariant-loop-rest
invariant-loop-rest l = record {
  small : AllByRecursion IsSmallRank l.ranks.items;
  text : l.fn.bytes ≡ flat_map rank_words l.ranks.items ++ l.rest;
  none : ¬ AreMoreRanks l.rest → ¬ AreMoreRanks l.fn.bytes;
}

abbrev pub decreases-loop-rest : goal.decreases-loop-rest
decreases-loop-rest l = length l.rest
