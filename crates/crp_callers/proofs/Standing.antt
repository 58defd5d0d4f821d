-- What holds of the yard of two bays, and of that with an empty bay between.
use Rattle.std.proofs.Common.{ℕ, ◌≤◌, [], refl, arith}
use Rattle.std.specs.Prelude.{All}
use Rattle.std.specs.List.{IsDistinct}
use Rattle.std.proofs.lemmas.List.Elements.{All-from_recursion}
use Rattle.crp_plan.specs.BayNames.{IsYardBay}
use Rattle.crp_plan.specs.Faults.{HasTiers, AreHeights}
use Rattle.crp_sizes.specs.Heights.{CanBeHeights}
use Rattle.crp_sizes.specs.Sizes.{BaySize, CanBeSizes, heights_at}
use Rattle.crp_yard.specs.Inventory.{StackedBay, IsYard, FitBay, containers_of}
use Rattle.crp_order.proofs.Once.{once}
use Rattle.crp_callers.specs.TwoBays.{heights, sizes, bay, two_bays, with_empty_bay}

heights_fit : AreHeights heights
heights_fit = All-from_recursion HasTiers heights ((omega arith, omega arith), ((omega arith, omega arith), tt))

sizes_fit : CanBeSizes sizes
unfolding IsDistinct
sizes_fit = record { common = ((omega arith, omega arith), heights_fit); listed = All-from_recursion (λ (size : BaySize). CanBeHeights size.1) [] tt; once = tt }

abbrev Fit : StackedBay → Type 0
Fit b = FitBay (heights_at sizes b.0) b.1

pub is_yard : IsYard two_bays
unfolding IsDistinct
is_yard = record {
  sizes_fit = sizes_fit;
  bays_fit = All-from_recursion Fit two_bays.bays ((omega arith, (omega arith, tt)), ((omega arith, (omega arith, tt)), tt));
  bays_once = ((refl, tt), (tt, tt));
  containers_once = once (containers_of two_bays.bays) ((refl, (refl, (refl, (refl, tt)))), ((refl, (refl, (refl, tt))), ((refl, (refl, tt)), ((refl, tt), (tt, tt)))));
}

pub is_yard_still : IsYard with_empty_bay
unfolding IsDistinct
is_yard_still = record {
  sizes_fit = sizes_fit;
  bays_fit = All-from_recursion Fit with_empty_bay.bays ((omega arith, (omega arith, tt)), ((omega arith, (omega arith, tt)), ((omega arith, (omega arith, tt)), tt)));
  bays_once = ((refl, (refl, tt)), ((refl, tt), (tt, tt)));
  containers_once = is_yard.containers_once;
}

named : (n : ℕ) → 1 ≤ n → n ≤ 9999 → IsYardBay (bay n)
named n low high = record {
  some_characters = omega arith;
  few_characters = omega arith;
  printed = All-from_recursion (λ b. (33 ≤ b) × (b ≤ 126)) (bay n).block ((omega arith, omega arith), tt);
  counts = low;
  four_digits = high;
}

pub are_named : All (λ (b : StackedBay). IsYardBay b.0) with_empty_bay.bays
are_named = All-from_recursion (λ (b : StackedBay). IsYardBay b.0) with_empty_bay.bays (named 1 (omega arith) (omega arith), (named 3 (omega arith) (omega arith), (named 2 (omega arith) (omega arith), tt)))
