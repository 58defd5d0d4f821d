-- The text of a height for each row.
use Rattle.std.specs.Prelude.{◌≡◌, ◌≤◌, ℕ, ◌+◌, ◌*◌, List, [], ◌∷◌, length, flat_map, get_or}
use Rattle.crp_plan.specs.Faults.{HasTiers, AreHeights}

-- these can be the heights of a bay's rows: 1 to 12 rows, and in each from 1 to 8 tiers
abbrev pub CanBeHeights : List ℕ → Type 0
CanBeHeights heights = ((1 ≤ length heights) × (length heights ≤ 12)) × AreHeights heights

-- the digits of heights, each behind a point
abbrev pub behind_points : List ℕ → List ℕ
behind_points heights = flat_map (λ height. 46 ∷ (48 + height) ∷ []) heights

-- the digits of heights, joined by points
abbrev pub heights_text : List ℕ → List ℕ
heights_text [] = []
heights_text (height ∷ heights) = (48 + height) ∷ behind_points heights

-- the text is that of these heights: 1 to 12 of them, each from 1 to 8
abbrev pub IsHeightsText : List ℕ → List ℕ → Type 0
IsHeightsText heights text = CanBeHeights heights × (text ≡ heights_text heights)

-- in the text, with a point before it, stand a point and this height's digit behind so many heights. Only private clauses speak of it.
abbrev pub HasHeightAt : List ℕ → ℕ → ℕ → Type 0
HasHeightAt text before height = (get_or (46 ∷ text) (2 * before) 0 ≡ 46) × (get_or (46 ∷ text) (2 * before + 1) 0 ≡ 48 + height) × HasTiers height
