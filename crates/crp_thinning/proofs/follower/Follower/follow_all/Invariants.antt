use Rattle.std.proofs.Common.{◌↔◌, List, ℕ, ◌++◌, take}
use Rattle.crp_thinning.specs.Owed.{Takes}
use Rattle.crp_thinning.proofs.follower.Follower.follow_all.Given as goal

abbrev pub invariant-loop-symbol : goal.invariant-loop-symbol
invariant-loop-symbol l = (text : List ℕ) → Takes l.self text ↔ Takes l.fn.self (take l.symbol-index l.symbols ++ text)
