-- Two small bays, each of three rows with three tiers. A stack is read from bottom to top.
use Rattle.std.specs.Prelude.{ℕ, List, [], ◌∷◌}
use Rattle.crp_plan.specs.Bay.{Problem, Position}
use Rattle.crp_tree.specs.Tree.{Tree, CutB, CutL, Branch, no_trees, one_and}

-- 1 stands under 5 and 4, 6 stands alone, and 2 stands on 3; all six leave
abbrev pub bay_of_six : Problem
bay_of_six = record { heights = 3 ∷ 3 ∷ 3 ∷ []; ordered = 6; stacks = (1 ∷ 5 ∷ 4 ∷ []) ∷ (6 ∷ []) ∷ (3 ∷ 2 ∷ []) ∷ [] }

-- 1 stands under 4, and 2 and 3 stand alone; all four leave
abbrev pub bay_of_four : Problem
bay_of_four = record { heights = 3 ∷ 3 ∷ 3 ∷ []; ordered = 4; stacks = (1 ∷ 4 ∷ []) ∷ (2 ∷ []) ∷ (3 ∷ []) ∷ [] }

-- such rows where this container is the next to leave
abbrev pub standing : ℕ → ℕ → List (List ℕ) → Position
standing ordered next stacks = record { heights = 3 ∷ 3 ∷ 3 ∷ []; ordered = ordered; next = next; stacks = stacks }

-- the four before any move: nothing can leave
abbrev pub first_of_four : Position
first_of_four = standing 4 1 bay_of_four.stacks

-- a branch for the two rows that have room, with a cut in each
abbrev pub two_cuts : Tree
two_cuts = Branch (one_and CutB (one_and CutL no_trees))
