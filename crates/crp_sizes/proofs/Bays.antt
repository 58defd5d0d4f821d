-- Bays of a yard are compared, and the heights of a bay can be heights.
use Rattle.std.proofs.Common.{◌≡◌, ℕ, Some, Bool, true, false, cond, List, [], ◌∷◌, refl, rules}
use Rattle.std.specs.Cmp.Rules.{comparing}
use Rattle.std.specs.Prelude.{◌==◌, unwrap_or}
use Rattle.std.specs.Str.{bytes_eq}
use Rattle.std.specs.Cmp.{IsEquivalence}
use Rattle.std.specs.List.{AllByRecursion}
use Rattle.std.proofs.lemmas.Bool.{eqb-true, eq-eqb}
use Rattle.std.proofs.lemmas.Slice.Eq.{bytes_eq-Decides}
use Rattle.crp_plan.specs.BayNames.{YardBay, same_bay}
use Rattle.crp_sizes.specs.Heights.{CanBeHeights}
use Rattle.crp_sizes.specs.Sizes.{BaySize, YardSizes, CanBeSizes, heights_of, heights_at}
use Rattle.crp_sizes.proofs.BaySteps.{both}
use Rattle.crp_sizes.proofs.Lists.{each_of}

pub same_bay_laws : IsEquivalence same_bay
same_bay_laws = search (comparing, rules)

pub same_bay_is : (a b : YardBay) → same_bay a b ≡ true → a ≡ b
same_bay_is a b e =
    let parts = both (bytes_eq a.block b.block) (a.bay == b.bay) e in
    let block : a.block ≡ b.block = (bytes_eq-Decides a.block b.block).0 parts.0 in
    let bay : a.bay ≡ b.bay = eqb-true a.bay b.bay parts.1 in
    λ i. record { block = block i; bay = bay i }

pub same_bay_self : (a : YardBay) → same_bay a a ≡ true
same_bay_self a = rw ((bytes_eq-Decides a.block a.block).1 refl, eq-eqb a.bay a.bay refl) refl

listed_can_be : (common : List ℕ) (sizes : List BaySize) (bay : YardBay) → CanBeHeights common → AllByRecursion (λ size. CanBeHeights size.1) sizes
    → CanBeHeights (unwrap_or (heights_of sizes bay) common)
listed_can_be common [] bay can all = can
listed_can_be common (size ∷ sizes) bay can all = by (same_bay bay size.0) (listed_can_be common sizes bay can all.1)
  where
    by : (b : Bool) → CanBeHeights (unwrap_or (heights_of sizes bay) common) → CanBeHeights (unwrap_or (cond b (Some size.1) (heights_of sizes bay)) common)
    by true rest = all.0
    by false rest = rest

-- where sizes can be, the heights of each bay can
pub heights_can_be : (sizes : YardSizes) → CanBeSizes sizes → (bay : YardBay) → CanBeHeights (heights_at sizes bay)
heights_can_be sizes can bay = listed_can_be sizes.common sizes.listed bay can.common (each_of (λ (size : BaySize). CanBeHeights size.1) sizes.listed can.listed)
