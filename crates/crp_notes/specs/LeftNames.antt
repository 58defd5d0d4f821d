-- Sets of names. Only the clauses of private functions speak of it.
use Rattle.std.specs.Prelude.{◌≡◌, ℕ, Bool, List}
use Rattle.std.specs.List.{list_any}
use Rattle.std.specs.Str.{bytes_eq}
use denote.Ref.{Bor}

-- the set has the names that pass, and no others
abbrev pub HasThose : (List ℕ → Bool) → List (Bor (List ℕ)) → Type 0
HasThose passes names = (a : Bor (List ℕ)) → list_any (λ n. bytes_eq a.now n.now) names ≡ passes a.now
