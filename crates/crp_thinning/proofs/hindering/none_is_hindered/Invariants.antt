use Rattle.std.proofs.Common.{◌≡◌, ℕ, List, [], take, sum_by}
use Rattle.crp_bounds.specs.Leasts.{least_ordered}
use Rattle.crp_thinned.specs.Hindering.{hindered}
use Rattle.crp_thinning.proofs.hindering.none_is_hindered.Given as goal

abbrev pub invariant-loop-stack : goal.invariant-loop-stack
invariant-loop-stack l = (onto : List ℕ) → l.least ≡ least_ordered l.ordered onto → sum_by (λ stack. hindered l.ordered l.rank onto [] stack) (take l.stack-index l.stacks) ≡ 0
