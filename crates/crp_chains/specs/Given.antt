-- Families that are given by their ranks.
use Rattle.std.specs.Prelude.{ℕ, List, map}
use Rattle.arrayvec.specs.ArrayVec.{ArrayVec}

-- the ranks of each chain
abbrev pub lists_of : List (ArrayVec ℕ) → List (List ℕ)
lists_of family = map (λ ranks. ranks.items) family
