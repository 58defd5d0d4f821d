-- The trees of a thinned branch below rows where the blocker is well placed.
use Rattle.std.specs.Prelude.{◌≡◌, ℕ, ◌-◌, ◌<◌, List, [], ◌∷◌, ◌++◌, length, slice_index, Contains}
use Rattle.crp_plan.specs.Bay.{Position}
use Rattle.crp_thinned.specs.Thinned.{good_rows, child_at}
use Rattle.crp_thinning.specs.Symbols.{Closes}

-- each of the rows is one where the blocker is well placed
abbrev pub AreGood : Position → List ℕ → Type 0
AreGood s rows = (i : ℕ) → i < length rows → Contains (good_rows s) (slice_index rows i)

-- the text is the symbols of trees below these rows, one after the other, which all reach what is needed
abbrev pub CloseEach : Position → ℕ → List ℕ → List ℕ → Type 0
CloseEach s need [] text = text ≡ []
CloseEach s need (row ∷ rows) text = (here : List ℕ) × (rest : List ℕ) × Closes (child_at s row) (need - 1) here × (text ≡ here ++ rest) × CloseEach s need rows rest
