-- Texts of items that are numbered.
use Rattle.std.specs.Prelude.{ℕ, suc, List, [], ◌∷◌, ◌++◌}

-- the texts of items that are numbered from this one, one after the other
abbrev pub numbered_text : {X : Type 0} → (ℕ → X → List ℕ) → ℕ → List X → List ℕ
numbered_text text number [] = []
numbered_text text number (x ∷ xs) = text number x ++ numbered_text text (suc number) xs
