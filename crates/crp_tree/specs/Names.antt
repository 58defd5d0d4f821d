-- The order of names: row by row, and a name comes before those that go on from it. And how a name is shown.
use Rattle.std.specs.Prelude.{◌≡◌, ℕ, ◌<◌, ◌⊎◌, List, [], ◌∷◌, ◌++◌, codes}
use Rattle.std.specs.List.{flat_map}
use Rattle.std.specs.Fmt.{decimal}

-- the second name goes on from the first, by one row at least
pub record GoesOn (name longer : List ℕ) : Type 0 where
  pub row : ℕ
  pub rest : List ℕ
  pub is : longer ≡ name ++ row ∷ rest

-- where the two names first differ, the first has the lower row
pub record TurnsLower (name other : List ℕ) : Type 0 where
  pub common : List ℕ
  pub low : ℕ
  pub high : ℕ
  pub after_low : List ℕ
  pub after_high : List ℕ
  pub lower : low < high
  pub is_name : name ≡ common ++ low ∷ after_low
  pub is_other : other ≡ common ++ high ∷ after_high

-- the first name comes before the second
abbrev pub Precedes : List ℕ → List ℕ → Type 0
Precedes name other = GoesOn name other ⊎ TurnsLower name other

-- the first name, in their order, of which this holds
pub record IsFirst (Holds : List ℕ → Type 0) (name : List ℕ) : Type 0 where
  pub holds : Holds name
  pub first : (other : List ℕ) → Holds other → (other ≡ name) ⊎ Precedes name other

-- a name as it is shown: / where it has no rows, else its rows with points between them
abbrev pub name_text : List ℕ → List ℕ
name_text [] = codes "/"
name_text (row ∷ rows) = decimal row ++ flat_map (λ r. 46 ∷ decimal r) rows
