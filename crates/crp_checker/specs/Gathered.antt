-- The names that parts give, as they are kept. No part has a name of more than 8 rows; so of longer ones that are given it is enough to keep the first,
-- in the order of names.
use Rattle.std.specs.Prelude.{ℕ, not, nat_le, if◌then◌else◌, List, [], ◌∷◌, ◌++◌, length, filter, Bool, Option, Some, None}
use Rattle.std.specs.Ordering.{nat_cmp, is_lt}
use Rattle.std.specs.Cmp.Lexicographic.{slice_cmp}

-- what is kept: the names of at most 8 rows, in the order in which they came, and the first of the longer ones
pub record Gathered : Type 0 where
  pub short : List (List ℕ)
  pub longer : Option (List ℕ)

-- a part may have the name
abbrev pub is_short : List ℕ → Bool
is_short name = nat_le (length name) 8

-- none may
abbrev pub is_longer : List ℕ → Bool
is_longer name = not (is_short name)

-- of the name and another, if there is one, the first
abbrev pub first_with : List ℕ → Option (List ℕ) → List ℕ
first_with name None = name
first_with name (Some other) = if is_lt (slice_cmp nat_cmp other name) then other else name

-- of one and another, if there are, the first
abbrev pub first_of_both : Option (List ℕ) → Option (List ℕ) → Option (List ℕ)
first_of_both None other = other
first_of_both (Some name) other = Some (first_with name other)

-- the first of the names, if there is one
abbrev pub first_in : List (List ℕ) → Option (List ℕ)
first_in [] = None
first_in (name ∷ names) = Some (first_with name (first_in names))

-- what is kept of names
abbrev pub gathered : List (List ℕ) → Gathered
gathered names = record { short = filter is_short names; longer = first_in (filter is_longer names) }

-- and of more of them behind others
abbrev pub joined : Gathered → Gathered → Gathered
joined before more = record { short = before.short ++ more.short; longer = first_of_both before.longer more.longer }
