-- The family that lists of ranks name.
use Rattle.std.specs.Prelude.{ℕ, suc, min, List, [], ◌∷◌, map}
use Rattle.crp_plan.specs.Rows.{below}
use Rattle.crp_plan.specs.Bay.{Position}
use Rattle.crp_bay.specs.Positions.{place, stack_at}
use Rattle.crp_chains.specs.declared.blocker.Blocker.{Blocker}

-- the least ordered rank of a list; where there is none, the first that is not ordered
abbrev pub least_of : ℕ → List ℕ → ℕ
least_of ordered [] = suc ordered
least_of ordered (x ∷ xs) = min x (least_of ordered xs)

-- the turn of a container that blocks: the least ordered rank beneath it
abbrev pub turn_of : Position → ℕ → ℕ
turn_of s x = least_of s.ordered (below x (stack_at s (place x s.stacks)))

-- the chains of these ranks, each with its turn
abbrev pub family_of : Position → List (List ℕ) → List (List Blocker)
family_of s lists = map (λ ranks. map (λ x. record { rank = x; turn = turn_of s x }) ranks) lists
