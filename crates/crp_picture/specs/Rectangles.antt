-- Where places lie in a picture, in px, and what a box and a label cover there.
use Rattle.std.specs.Prelude.{◌≡◌, ◌⊎◌, ℕ, suc, ◌+◌, ◌-◌, ◌*◌, ◌≤◌, ◌==◌, Bool, true, false, List, [], ◌∷◌, ◌++◌, decimal, if◌then◌else◌}
use Rattle.bstr.specs.Utf8.{continues}
use Rattle.crp_said.specs.declared.moves.Place.{Place}
use Rattle.crp_picture.specs.declared.wording.Wording.TheVariants as wording
use Rattle.crp_picture.specs.Grid.{x_of, y_of, bar_at, line}
use Rattle.crp_picture.specs.Names.{label}
use Rattle.crp_picture.specs.Cells.{Cell}
use Rattle.crp_picture.specs.Pictures.{line_of}

-- a rectangle by its sides: left and right from the left, upper and lower from the top
pub record Rectangle : Type 0 where
  pub left : ℕ
  pub right : ℕ
  pub upper : ℕ
  pub lower : ℕ

-- that of a place, where the highest row has so many tiers
abbrev pub rectangle_of : ℕ → Place → Rectangle
rectangle_of tiers p = record { left = x_of p.row; right = x_of p.row + 40; upper = y_of tiers p.tier; lower = y_of tiers p.tier + 32 }

-- a place that can be drawn there
abbrev pub IsPlaceUnder : ℕ → Place → Type 0
IsPlaceUnder tiers p = (1 ≤ p.row) × (1 ≤ p.tier) × (p.tier ≤ tiers)

-- one lies beside the other, or above it
abbrev pub AreApart : Rectangle → Rectangle → Type 0
AreApart a b = (a.right ≤ b.left) ⊎ ((b.right ≤ a.left) ⊎ ((a.lower ≤ b.upper) ⊎ (b.lower ≤ a.upper)))

-- the first lies within the second
pub record IsWithin (a b : Rectangle) : Type 0 where
  pub left : b.left ≤ a.left
  pub right : a.right ≤ b.right
  pub upper : b.upper ≤ a.upper
  pub lower : a.lower ≤ b.lower

-- a line from a point to the right, and what it covers where it is 28 thick
abbrev pub line_right : ℕ → ℕ → ℕ → List ℕ
line_right x y long = 77 ∷ (decimal x ++ 32 ∷ (decimal y ++ 104 ∷ decimal long))

abbrev pub covered : ℕ → ℕ → ℕ → Rectangle
covered x y long = record { left = x; right = x + long; upper = y - 14; lower = y + 14 }

-- the box of a place is such a line, which lies within the place
pub record IsBoxIn (tiers : ℕ) (p : Place) : Type 0 where
  pub x : ℕ
  pub y : ℕ
  pub long : ℕ
  pub drawn : bar_at tiers p.row p.tier ≡ line_right x y long
  pub within : IsWithin (covered x y long) (rectangle_of tiers p)

-- how many characters a text of a page has, from within an entity or not: an entity is one, and a byte that goes on with a character is none
abbrev pub characters_from : Bool → List ℕ → ℕ
characters_from is_within [] = 0
characters_from false (b ∷ bytes) =
    if b == 38 then characters_from true bytes else (if continues b then characters_from false bytes else suc (characters_from false bytes))
characters_from true (b ∷ bytes) = if b == 59 then suc (characters_from false bytes) else characters_from true bytes

abbrev pub characters : List ℕ → ℕ
characters bytes = characters_from false bytes

-- in the line of the labels of this place's tier, which has 5 characters for each row, the name's label is a space and its letters. The text
-- is 40 wide for each row, so each character is 8 wide, and the letters are no further left than the place and no further right
pub record IsLabelIn (tiers rows : ℕ) (cells : List Cell) (p : Place) (name : List ℕ) : Type 0 where
  pub x : ℕ
  pub y : ℕ
  pub last : ℕ
  pub front : List ℕ
  pub letters : List ℕ
  pub rest : List ℕ
  pub label_is : label name ≡ 32 ∷ letters
  pub line_is : line_of wording.Labels tiers rows cells p.tier ≡ line 108 x y last (front ++ ((32 ∷ letters) ++ rest))
  pub line_long : characters (front ++ ((32 ∷ letters) ++ rest)) ≡ 5 * last
  pub left : x_of p.row ≤ x + 8 * suc (characters front)
  pub right : x + 8 * (suc (characters front) + characters letters) ≤ x_of p.row + 40
