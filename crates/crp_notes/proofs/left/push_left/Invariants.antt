-- Those of the stack so far.
use Rattle.std.proofs.Common.{◌≡◌, ℕ, Bool, List, ◌++◌, map, filter, take}
use Rattle.crp_notes.specs.LeftNames.{HasThose}
use Rattle.crp_notes.proofs.left.push_left.Given as goal

abbrev pub invariant-loop-container : goal.invariant-loop-container
invariant-loop-container l = (passes : List ℕ → Bool) → HasThose passes l.names.keys
    → map (λ name. name.now) l.found.items ≡ map (λ name. name.now) l.initial.found.items ++ filter passes (take l.container-index l.stack)
