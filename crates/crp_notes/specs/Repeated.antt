-- What comes more than once in a list, by a test of which two are the same.
use Rattle.std.specs.Prelude.{ℕ, Bool, List, [], ◌∷◌, ◌++◌, length, filter, fold, if◌then◌else◌}
use Rattle.std.specs.List.{list_any}

-- how many of these are the same as this one
abbrev pub times : {A : Type 0} → (A → A → Bool) → A → List A → ℕ
times same x xs = length (filter (same x) xs)

-- with one more, unless it is there
abbrev pub kept_with : {A : Type 0} → (A → A → Bool) → List A → A → List A
kept_with same kept x = if list_any (same x) kept then kept else kept ++ x ∷ []

-- each once, in the order in which they come first
abbrev pub each_once : {A : Type 0} → (A → A → Bool) → List A → List A
each_once same xs = fold (kept_with same) [] xs
