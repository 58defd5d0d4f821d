-- The size of each bay of a yard: how many tiers each of its rows has.
use Rattle.std.specs.Prelude.{ℕ, List, [], All, map, Option, unwrap_or}
use Rattle.std.specs.List.{IsDistinct}
use Rattle.std.specs.Map.{lookup}
use Rattle.crp_plan.specs.BayNames.{YardBay, same_bay}
use Rattle.crp_sizes.specs.Heights.{CanBeHeights}

-- a bay, and the height of each of its rows
abbrev pub BaySize : Type 0
BaySize = YardBay × List ℕ

-- the heights that the sizes have for a bay; none where they have not the bay
abbrev pub heights_of : List BaySize → YardBay → Option (List ℕ)
heights_of sizes bay = lookup (same_bay bay) sizes

-- the heights of the rows of a bay that is not listed, and the bays that are listed, each with its own
pub record YardSizes : Type 0 where
  pub common : List ℕ
  pub listed : List BaySize

-- the heights of the rows of a bay: its own where it is listed, and else the common ones
abbrev pub heights_at : YardSizes → YardBay → List ℕ
heights_at sizes bay = unwrap_or (heights_of sizes.listed bay) sizes.common

-- all bays have rows of these heights
abbrev pub one_size : List ℕ → YardSizes
one_size heights = record { common = heights; listed = [] }

-- each bay has 1 to 12 rows of 1 to 8 tiers, and none is listed twice
pub record CanBeSizes (sizes : YardSizes) : Type 0 where
  pub common : CanBeHeights sizes.common
  pub listed : All (λ size. CanBeHeights size.1) sizes.listed
  pub once : IsDistinct same_bay (map (λ size. size.0) sizes.listed)
