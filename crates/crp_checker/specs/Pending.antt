-- What is kept of the symbols of a part in place of the trees that are owed: the position of one branch, which can go back, the path to its child that
-- came last or is owed, and how many branches are open. What a pop gives back says where the trees of the branches above are owed.
use Rattle.std.specs.Prelude.{◌≡◌, ◌≤◌, ℕ, zero, suc, ◌-◌, List, [], ◌∷◌, ◌++◌, length, take, filter, Option, Some, None}
use Rattle.crp_plan.specs.Bay.{Position}
use Rattle.crp_bay.specs.Positions.{top, can_shift, child, counted}
use Rattle.crp_bay.specs.Back.{PlaceAndTrail}
use Rattle.crp_checker.specs.declared.next.Next.{Next}
use Rattle.crp_checker.specs.declared.next.Next.TheVariants.{Here, Behind, Nowhere}
use Rattle.crp_tree.specs.Spots.{Spot, spots_below}

-- the path without its last row
abbrev pub up : List ℕ → List ℕ
up path = take (length path - 1) path

-- the position before the last push that is not undone, by the trail; where there is no such push, the same
abbrev pub back_on : Position → List Position → PlaceAndTrail
back_on s [] = record { place = s; trail = [] }
back_on s (before ∷ trail) = record { place = before; trail = trail }

-- what a pop makes of a position that is changed in place
abbrev pub back : PlaceAndTrail → PlaceAndTrail
back s = back_on s.place s.trail

-- the legal rows behind a row
abbrev pub rows_behind : ℕ → Position → List ℕ
rows_behind row s = filter (can_shift s) (counted (suc row) (length s.heights - row))

-- what so many branches owe, of which the last has this position, and its child behind which trees are owed this path: a tree for each legal row behind
-- that child, and then what the branches above it owe
abbrev pub pending : ℕ → List ℕ → PlaceAndTrail → List Spot
pending zero path s = []
pending (suc more) path s = spots_below (up path) s.place (rows_behind (top path) s.place) ++ pending more (up path) (back s)

-- the position itself, or where a row leads from it
abbrev pub below : Option ℕ → Position → Position
below None s = s
below (Some row) s = child s row

-- a tree is owed there, to which the path leads
abbrev pub spot_at : Option ℕ → List ℕ → Position → Spot
spot_at row path s = record { path = path; place = below row s }

-- what is owed, where so many branches are open
abbrev pub owed_by : Next → ℕ → List ℕ → PlaceAndTrail → List Spot
owed_by Here more path s = spot_at None path s.place ∷ []
owed_by Behind more path s = pending more path s
owed_by Nowhere more path s = []

-- no branch is open where a tree is owed at the position itself; else the path goes on from the part's name, and some tree is owed
pub record IsSound (next : Next) (above : ℕ) (path : List ℕ) (s : PlaceAndTrail) : Type 0 where
  pub alone : next ≡ Here → length path ≡ above
  pub within : next ≡ Behind → above ≤ length path
  pub some : next ≡ Behind → (spot : Spot) × (owed : List Spot) × (pending (length path - above) path s ≡ spot ∷ owed)
