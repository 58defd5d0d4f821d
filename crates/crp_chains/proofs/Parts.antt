-- Lower parts of lists, found from the bottom.
use Rattle.std.proofs.Common.{◌≡◌, ℕ, List, ◌++◌, take, drop}

-- the part goes at least to n
abbrev pub GoesTo : (List ℕ → List ℕ) → List ℕ → ℕ → Type 0
GoesTo part xs n = part xs ≡ take n xs ++ part (drop n xs)
