-- The rows of a bay, as arrays of numbers.
use Rattle.std.specs.Prelude.{◌≡◌, ℕ, ◌≤◌, List, [], ◌∷◌, length, take, drop}

-- the first row has so many of the ranks, from bottom to top, the next row as many of the ranks behind as the next count says, and so on
abbrev pub rows_of : List ℕ → List ℕ → List (List ℕ)
rows_of [] ranks = []
rows_of (count ∷ counts) ranks = take count ranks ∷ rows_of counts (drop count ranks)

-- there are so many ranks for each row, and none is left
abbrev pub FillRows : List ℕ → List ℕ → Type 0
FillRows [] ranks = ranks ≡ []
FillRows (count ∷ counts) ranks = (count ≤ length ranks) × FillRows counts (drop count ranks)
