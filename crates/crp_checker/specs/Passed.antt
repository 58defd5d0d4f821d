-- Cuts that are passed over from one child of a branch to another, since the blocking bound there suffices for either bound.
use Rattle.std.specs.Prelude.{◌≡◌, ℕ, ◌≤◌, Bool, true, ◌==◌, ◌||◌, List, [], ◌∷◌, ◌++◌, Option, Some, None}
use Rattle.std.specs.List.{AllZip}
use Rattle.crp_plan.specs.Bay.{Position}
use Rattle.crp_bay.specs.Positions.{child}
use Rattle.crp_bounds.specs.Bounds.{blocking}
use Rattle.crp_checker.specs.Pending.{rows_behind}

-- the letter of a cut, by the blocking bound or by the look-ahead bound
abbrev pub is_cut_letter : ℕ → Bool
is_cut_letter b = b == 66 || b == 76

-- the letter of a cut, and the blocking bound where the row leads is at least so high
pub record IsHighCut (least : ℕ) (s : Position) (row b : ℕ) : Type 0 where
  pub cut : is_cut_letter b ≡ true
  pub high : least ≤ blocking (child s row)

-- this legal row and those behind it, or none
abbrev pub rows_from : Option ℕ → Position → List ℕ
rows_from None s = []
rows_from (Some row) s = row ∷ rows_behind row s

-- from some rows others are left: the bytes before the stop have a cut more for each row between them, where the blocking bound is at least so high
pub record ArePassed (least : ℕ) (s : Position) (rows left : List ℕ) (before bytes : List ℕ) : Type 0 where
  pub passed : List ℕ
  pub letters : List ℕ
  pub rows_are : rows ≡ passed ++ left
  pub bytes_are : bytes ≡ before ++ letters
  pub cuts : AllZip (IsHighCut least s) passed letters
