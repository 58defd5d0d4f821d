-- What is left of stacks that are cut off, and what a row offers to a container that has to make way.
use Rattle.std.specs.Prelude.{ℕ, max, nat_le, if◌then◌else◌, List, [], ◌∷◌, length, take}
use Rattle.crp_bounds.specs.Leasts.{least_ordered}

-- so many containers of each stack, from the bottom
abbrev pub cut : List ℕ → List (List ℕ) → List (List ℕ)
cut left [] = []
cut [] (stack ∷ stacks) = [] ∷ cut [] stacks
cut (n ∷ left) (stack ∷ stacks) = take n stack ∷ cut left stacks

-- the least ordered rank of a row with room, 255 where it has none; 0 for a full row. A container finds a place in the row where this is not lower than its rank
abbrev pub offer : ℕ → ℕ → List ℕ → ℕ
offer ordered height stack = if nat_le height (length stack) then 0 else least_ordered ordered stack

abbrev pub offers : ℕ → List ℕ → List (List ℕ) → List ℕ
offers ordered [] stacks = []
offers ordered (height ∷ heights) [] = []
offers ordered (height ∷ heights) (stack ∷ stacks) = offer ordered height stack ∷ offers ordered heights stacks

abbrev pub greatest : List ℕ → ℕ
greatest [] = 0
greatest (x ∷ xs) = max x (greatest xs)
