-- What is left of the stacks at the turn of each rank in the look-ahead bound.
use Rattle.std.specs.Prelude.{ℕ, ◌&&◌, nat_le, nat_lt, if◌then◌else◌, List, [], ◌∷◌}

-- what is left of a stack at the turn of rank k: what stands below each container whose turn came before, from `next` on
abbrev pub left_at : ℕ → ℕ → List ℕ → List ℕ
left_at next k [] = []
left_at next k (x ∷ stack) = if nat_le next x && nat_lt x k then [] else x ∷ left_at next k stack
