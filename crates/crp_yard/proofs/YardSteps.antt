-- The inventory that entries give is a yard.
use Prim.Native.Nat.{zero}
use Rattle.std.proofs.Common.{◌≡◌, ◌≤◌, ◌-◌, ◌++◌, ℕ, suc, take, sym, subst, Bool, true, false, List, [], ◌∷◌, map, length, length-append, All, fold, get_or, Option, Some, None, refl, ap, ◌∙◌, arith}
use Rattle.std.specs.Prelude.{option_to_list, option_and_then, slice_get}
use Rattle.std.specs.List.{IsDistinct, AllByRecursion, list_any}
use Rattle.std.specs.Cmp.{IsEquivalence}
use Rattle.std.proofs.Math.Seq.{take-suc}
use Rattle.std.proofs.lemmas.List.{take_all}
use Rattle.std.proofs.lemmas.List.Elements.{All-map, All-get_or, All-from_recursion, recursion_from_All}
use Rattle.std.proofs.lemmas.Map.Keys.{IsDistinct-push}
use Rattle.std.proofs.lemmas.Option.{get_or_from_slice_get, slice_get_within}
use Rattle.crp_plan.specs.BayNames.{YardBay, same_bay}
use Rattle.crp_plan.specs.Faults.{HasTiers, AreHeights}
use Rattle.crp_sizes.proofs.Bays.{same_bay_laws}
use Rattle.crp_sizes.specs.Sizes.{YardSizes, CanBeSizes, heights_at}
use Rattle.crp_yard.specs.Records.{Entry, height_of}
use Rattle.crp_yard.specs.Inventory.{Inventory, StackedBay, stack_in_bay, FitBay, IsYard, inventory_of, bays_of, first_seen, with_bay, stack_up_to, stacks_up_to, stacked, container_at, times}
use Rattle.crp_yard.specs.Listings.{entry_names}
use Rattle.crp_yard.proofs.OnceSteps.{few_times, bays_times}
use Rattle.crp_yard.proofs.Sums.{below_then}

few_in_option : {X : Type 0} (o : Option X) → length (option_to_list o) ≤ 1
few_in_option None = omega arith
few_in_option (Some x) = omega arith

-- a bay has as many stacks as rows
pub fit_rows : (heights : List ℕ) (stacks : List (List (List ℕ))) → FitBay heights stacks → length stacks ≡ length heights
fit_rows [] [] fit = refl
fit_rows [] (stack ∷ stacks) fit = absurd fit
fit_rows (height ∷ heights) [] fit = absurd fit
fit_rows (height ∷ heights) (stack ∷ stacks) fit = ap suc (fit_rows heights stacks fit.1)

-- and 8 containers at most in each
low_bay : (heights : List ℕ) (stacks : List (List (List ℕ))) → FitBay heights stacks → AllByRecursion (λ height. HasTiers height) heights → AllByRecursion (λ stack. length stack ≤ 8) stacks
low_bay [] [] fit are = tt
low_bay [] (stack ∷ stacks) fit are = absurd fit
low_bay (height ∷ heights) [] fit are = absurd fit
low_bay (height ∷ heights) (stack ∷ stacks) fit are = let a = fit.0 in let b = are.0.1 in (omega arith, low_bay heights stacks fit.1 are.1)

pub low_stacks : (heights : List ℕ) (stacks : List (List (List ℕ))) → FitBay heights stacks → AreHeights heights → All (λ stack. length stack ≤ 8) stacks
low_stacks heights stacks fit are = All-from_recursion (λ stack. length stack ≤ 8) stacks (low_bay heights stacks fit (recursion_from_All (λ height. HasTiers height) heights are))

-- what holds of all bays holds of that with a number
pub fit_at : (sizes : YardSizes) (bays : List StackedBay) (i : ℕ) (bay : StackedBay) → All (λ (b : StackedBay). FitBay (heights_at sizes b.0) b.1) bays → Some bay ≡ slice_get bays i
    → FitBay (heights_at sizes bay.0) bay.1
fit_at sizes bays i bay all e =
    let fits : StackedBay → Type 0 = λ b. FitBay (heights_at sizes b.0) b.1 in
    subst fits (get_or_from_slice_get bays i bay bay (sym e)) (All-get_or fits bays i bay (slice_get_within bays i bay (sym e)) all)

-- the stack of a row of a bay
pub stack_there : (yard : Inventory) (i row : ℕ) (bay : StackedBay) (stack : List (List ℕ)) → Some bay ≡ slice_get yard.bays i → slice_get bay.1 (row - 1) ≡ Some stack → stack_in_bay yard i row ≡ Some stack
stack_there yard i row bay stack e f = ap (λ o. option_and_then (λ (b : StackedBay). slice_get b.1 (row - 1)) o) (sym e) ∙ f

stack_low : (entries : List Entry) (bay : YardBay) (row n : ℕ) → length (stack_up_to entries bay row n) ≤ n
stack_low entries bay row zero = omega arith
stack_low entries bay row (suc n) =
    let top = option_to_list (container_at entries (record { bay = bay; row = row; tier = suc n })) in
    let one : length top ≤ 1 = few_in_option (container_at entries (record { bay = bay; row = row; tier = suc n })) in
    omega (arith, length-append (stack_up_to entries bay row n) top, stack_low entries bay row n, one)

fit_more : (heights : List ℕ) (height : ℕ) (stacks : List (List (List ℕ))) (stack : List (List ℕ)) → FitBay heights stacks → length stack ≤ height → FitBay (heights ++ height ∷ []) (stacks ++ stack ∷ [])
fit_more [] height [] stack fit low = (low, tt)
fit_more [] height (first ∷ stacks) stack fit low = absurd fit
fit_more (first ∷ heights) height [] stack fit low = absurd fit
fit_more (first ∷ heights) height (lowest ∷ stacks) stack fit low = (fit.0, fit_more heights height stacks stack fit.1 low)

take_none : (l : List ℕ) → take 0 l ≡ []
take_none [] = refl
take_none (x ∷ l) = refl

stacks_fit : (entries : List Entry) (bay : YardBay) (heights : List ℕ) (n : ℕ) → n ≤ length heights → FitBay (take n heights) (stacks_up_to entries bay heights n)
stacks_fit entries bay heights zero h = subst (λ l. FitBay l []) (sym (take_none heights)) tt
stacks_fit entries bay heights (suc n) h =
    let index : suc n - 1 ≡ n = omega arith in
    let low : length (stack_up_to entries bay (suc n) (height_of heights (suc n))) ≤ get_or heights n 0 =
    subst (λ k. length (stack_up_to entries bay (suc n) (height_of heights (suc n))) ≤ get_or heights k 0) index (stack_low entries bay (suc n) (height_of heights (suc n))) in
    subst (λ l. FitBay l (stacks_up_to entries bay heights (suc n))) (sym (take-suc heights n 0 (omega arith)))
    (fit_more (take n heights) (get_or heights n 0) (stacks_up_to entries bay heights n) (stack_up_to entries bay (suc n) (height_of heights (suc n))) (stacks_fit entries bay heights n (omega arith)) low)

distinct-with : (seen : List YardBay) (bay : YardBay) → IsDistinct same_bay seen → IsDistinct same_bay (with_bay seen bay)
distinct-with seen bay once = by (list_any (same_bay bay) seen) refl
  where
    by : (b : Bool) → list_any (same_bay bay) seen ≡ b → IsDistinct same_bay (with_bay seen bay)
    by true e = rw e once
    by false e = rw e (IsDistinct-push same_bay_laws seen bay once e)

distinct_from : (seen bays : List YardBay) → IsDistinct same_bay seen → IsDistinct same_bay (fold with_bay seen bays)
distinct_from seen [] once = once
distinct_from seen (bay ∷ bays) once = distinct_from (with_bay seen bay) bays (distinct-with seen bay once)

pub first_seen_once : (bays : List YardBay) → IsDistinct same_bay (first_seen bays)
unfolding Rattle.std.specs.List.IsDistinct
first_seen_once bays = distinct_from [] bays tt

names_stay : (sizes : YardSizes) (entries : List Entry) (bays : List YardBay) → map (λ (b : StackedBay). b.0) (map (stacked sizes entries) bays) ≡ bays
names_stay sizes entries [] = refl
names_stay sizes entries (bay ∷ bays) = ap (λ l. bay ∷ l) (names_stay sizes entries bays)

pub all_fit : (sizes : YardSizes) (entries : List Entry) (bays : List YardBay) → All (λ (b : StackedBay). FitBay (heights_at sizes b.0) b.1) (map (stacked sizes entries) bays)
all_fit sizes entries bays =
    All-map (λ (b : StackedBay). FitBay (heights_at sizes b.0) b.1) (stacked sizes entries) bays
    (λ k d h.
    let bay = get_or bays k d in
    let heights = heights_at sizes bay in
    subst (λ l. FitBay l (stacks_up_to entries bay heights (length heights))) (take_all (length heights) heights (omega arith)) (stacks_fit entries bay heights (length heights) (omega arith)))

pub inventory_is_yard : (sizes : YardSizes) (entries : List Entry) → CanBeSizes sizes → ((c : List ℕ) → times c (entry_names entries) ≤ 1) → IsYard (inventory_of sizes entries)
inventory_is_yard sizes entries can once = record {
  sizes_fit = can;
  bays_fit = all_fit sizes entries (bays_of entries);
  bays_once = rw (names_stay sizes entries (bays_of entries)) (first_seen_once (map (λ e. e.0.bay) entries));
  containers_once = λ c. rw (bays_times sizes entries c (bays_of entries)) (below_then (few_times sizes entries c (bays_of entries) (first_seen_once (map (λ e. e.0.bay) entries))) (once c));
}
