-- What is added so far, and what is to be added, is all.
use Rattle.std.proofs.Common.{◌≡◌, ◌++◌, length}
use Rattle.crp_prices.specs.PriceLists.{behind_text}
use Rattle.crp_prices.proofs.list.push_behind.Given as goal

abbrev pub invariant-loop-first : goal.invariant-loop-first
invariant-loop-first l = l.text.items ++ behind_text l.last l.rest ≡ l.initial.text.items ++ behind_text l.rank l.entries

abbrev pub decreases-loop-first : goal.decreases-loop-first
decreases-loop-first l = length l.rest
