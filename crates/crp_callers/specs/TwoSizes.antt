-- A list of sizes of two bays, and a yard list with one of them and one that has the common size.
use Rattle.std.specs.Prelude.{ℕ, List, [], ◌∷◌, codes}
use Rattle.crp_sizes.specs.Sizes.{YardSizes}
use Rattle.crp_yard.specs.Inventory.{Inventory}
use Rattle.crp_callers.specs.TwoBays.{bay}

abbrev pub sizes_text : List ℕ
sizes_text = codes "block,bay,heights\nA,7,5.5.5.5.4\nB,12,3\n"

-- what it says, where other bays have one row of one tier
abbrev pub two_sizes : YardSizes
two_sizes = record { common = 1 ∷ []; listed = (bay 7, 5 ∷ 5 ∷ 5 ∷ 5 ∷ 4 ∷ []) ∷ (record { block = codes "B"; bay = 12 }, 3 ∷ []) ∷ [] }

-- a list in whose third record a container stands at tier 2 of the bay A 7
abbrev pub list_text : List ℕ
list_text = codes "block,bay,row,tier,container\nA,7,1,1,LOWER\nA,7,1,2,UPPER\nA,8,1,1,ALONE\n"

-- its yard
abbrev pub sized_yard : Inventory
sized_yard = record {
  sizes = two_sizes;
  bays = (bay 7, (codes "LOWER" ∷ codes "UPPER" ∷ []) ∷ [] ∷ [] ∷ [] ∷ [] ∷ []) ∷ (bay 8, (codes "ALONE" ∷ []) ∷ []) ∷ [];
}
