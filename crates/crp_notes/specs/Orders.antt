-- Lists and sets of orders. Only the clauses of private functions speak of it.
use Rattle.std.specs.Prelude.{◌≡◌, ℕ, List, map, unwrap_or}
use Rattle.std.specs.List.{list_any}
use Rattle.std.specs.Map.{lookup}
use Rattle.crp_notes.specs.declared.unread.Ordered.{Ordered}
use Rattle.crp_notes.specs.declared.unread.Tally.{Tally}
use Rattle.crp_notes.specs.Repeated.{times}
use Rattle.crp_notes.specs.Unread.{is_same}

-- the message and the code
abbrev pub ordered : Ordered → ℕ × List ℕ
ordered o = (o.message, o.code.now)

-- the same, and how many there are
abbrev pub shown : Tally → ℕ × List ℕ × ℕ
shown t = (t.of.message, t.of.code.now, t.orders)

-- the map has how many there are of each
abbrev pub HasCounts : List (Ordered × ℕ) → List Ordered → Type 0
HasCounts entries orders = (a : Ordered) → unwrap_or (lookup (λ k. is_same (ordered a) (ordered k)) entries) 0 ≡ times is_same (ordered a) (map ordered orders)

-- the set has these, and the list how many of all there are of each
abbrev pub AreCounted : List (ℕ × List ℕ) → List (ℕ × List ℕ) → List Ordered → List Tally → Type 0
AreCounted all kept keys found =
    ((a : Ordered) → list_any (λ k. is_same (ordered a) (ordered k)) keys ≡ list_any (is_same (ordered a)) kept)
    × (map shown found ≡ map (λ o. (o.0, o.1, times is_same o all)) kept)
