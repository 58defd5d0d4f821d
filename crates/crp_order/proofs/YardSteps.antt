-- The bays of a yard by their numbers.
use Prim.Native.Nat.{zero}
use Rattle.std.proofs.Common.{◌≡◌, ◌≤◌, ◌<◌, ◌+◌, ◌-◌, ℕ, suc, true, List, [], ◌∷◌, ◌++◌, length, take, get_or, Option, Some, None, slice_get, ap, ◌∙◌, subst, arith}
use Rattle.std.specs.Prelude.{option_and_then, option_map, unwrap_or}
use Rattle.std.specs.Option.{option_map_or}
use Rattle.std.proofs.lemmas.List.{take_all}
use Rattle.std.proofs.lemmas.List.Elements.{All-get_or}
use Rattle.std.proofs.lemmas.Option.{slice_get_within, get_or_from_slice_get, slice_get-get_or, same_Some}
use Rattle.crp_sizes.specs.Heights.{CanBeHeights}
use Rattle.crp_sizes.specs.Sizes.{heights_at}
use Rattle.crp_sizes.proofs.Bays.{heights_can_be}
use Rattle.crp_yard.specs.Inventory.{Inventory, StackedBay, IsYard, FitBay, times, is_among, stack_in_bay, containers_of}
use Rattle.crp_order.specs.BayProblems.{standing}
use Rattle.crp_order.specs.Groups.{stacks_numbered, heights_numbered}
use Rattle.crp_yard.proofs.ListingSteps.{times-append}
use Rattle.crp_order.proofs.Once.{some_times}

-- what is known of the bay with a number
pub record AtBay (yard : Inventory) (i : ℕ) : Type 0 where
  pub bay : StackedBay
  pub here : slice_get yard.bays i ≡ Some bay
  pub stacks : stacks_numbered yard i ≡ bay.1

no_bay : StackedBay
no_bay = (record { block = []; bay = 0 }, [])

pub at_bay : (yard : Inventory) (i : ℕ) → i < length yard.bays → AtBay yard i
at_bay yard i h =
    let here : slice_get yard.bays i ≡ Some (get_or yard.bays i no_bay) = slice_get-get_or yard.bays i no_bay h in
    record { bay = get_or yard.bays i no_bay; here = here; stacks = ap (λ found. option_map_or (λ b. b.1) found []) here }

pub stacks_of_bay : (yard : Inventory) (i : ℕ) (bay : StackedBay) → slice_get yard.bays i ≡ Some bay → stacks_numbered yard i ≡ bay.1
stacks_of_bay yard i bay e = ap (λ found. option_map_or (λ b. b.1) found []) e

pub heights_of_bay : (yard : Inventory) (i : ℕ) (bay : StackedBay) → slice_get yard.bays i ≡ Some bay → heights_numbered yard i ≡ heights_at yard.sizes bay.0
heights_of_bay yard i bay e = ap (λ found. unwrap_or (option_map (heights_at yard.sizes) (option_map (λ b. b.0) found)) []) e

pub can_be : (yard : Inventory) (i : ℕ) → IsYard yard → i < length yard.bays → CanBeHeights (heights_numbered yard i)
can_be yard i is h = let at : AtBay yard i = at_bay yard i h in rw (heights_of_bay yard i at.bay at.here) (heights_can_be yard.sizes is.sizes_fit at.bay.0)

pub stack_of_bay : (yard : Inventory) (i row : ℕ) (stack : List (List ℕ)) → stack_in_bay yard i row ≡ Some stack → slice_get (stacks_numbered yard i) (row - 1) ≡ Some stack
stack_of_bay yard i row stack e = by (slice_get yard.bays i) e
  where
    by : (found : Option StackedBay) → option_and_then (λ bay. slice_get bay.1 (row - 1)) found ≡ Some stack → slice_get (option_map_or (λ bay. bay.1) found []) (row - 1) ≡ Some stack
    by None h = h
    by (Some bay) h = h

pub take_next : {X : Type 0} (xs : List X) (i : ℕ) (x : X) → slice_get xs i ≡ Some x → take (i + 1) xs ≡ take i xs ++ x ∷ []
take_next xs i x e = Rattle.std.proofs.lemmas.List.take_more xs i x (slice_get_within xs i x e) ∙ ap (λ y. take i xs ++ y ∷ []) (get_or_from_slice_get xs i x x e)

pub fits : (yard : Inventory) (i : ℕ) → IsYard yard → i < length yard.bays → FitBay (heights_numbered yard i) (stacks_numbered yard i)
fits yard i is h =
    let at : AtBay yard i = at_bay yard i h in
    rw (heights_of_bay yard i at.bay at.here, at.stacks)
    (subst (λ bay. FitBay (heights_at yard.sizes bay.0) bay.1) (get_or_from_slice_get yard.bays i at.bay at.bay at.here)
    (All-get_or (λ bay. FitBay (heights_at yard.sizes bay.0) bay.1) yard.bays i at.bay h is.bays_fit))

-- a container stands in a bay as often as in the yard at most, and in two bays together
in_one : (bays : List StackedBay) (c : List ℕ) (i : ℕ) (bay : StackedBay) → slice_get bays i ≡ Some bay → times c (standing bay.1) ≤ times c (containers_of bays)
in_one [] c i bay e = cc
in_one (b ∷ bays) c zero bay e =
    let first : times c (standing b.1) ≡ times c (standing bay.1) = ap (λ x. times c (standing x.1)) (same_Some b bay e) in
    omega (arith, first, times-append c (standing b.1) (containers_of bays))
in_one (b ∷ bays) c (suc i) bay e = omega (arith, in_one bays c i bay e, times-append c (standing b.1) (containers_of bays))

in_two : (bays : List StackedBay) (c : List ℕ) (i j : ℕ) (a b : StackedBay) → i < j → slice_get bays i ≡ Some a → slice_get bays j ≡ Some b
    → times c (standing a.1) + times c (standing b.1) ≤ times c (containers_of bays)
in_two [] c i j a b h e f = cc
in_two (x ∷ bays) c i zero a b h e f = absurd (omega arith)
in_two (x ∷ bays) c zero (suc j) a b h e f =
    let first : times c (standing x.1) ≡ times c (standing a.1) = ap (λ y. times c (standing y.1)) (same_Some x a e) in
    omega (arith, first, in_one bays c j b f, times-append c (standing x.1) (containers_of bays))
in_two (x ∷ bays) c (suc i) (suc j) a b h e f = omega (arith, in_two bays c i j a b (omega arith) e f, times-append c (standing x.1) (containers_of bays))

pub stands_once : (yard : Inventory) (i : ℕ) → IsYard yard → i < length yard.bays → (c : List ℕ) → times c (standing (stacks_numbered yard i)) ≤ 1
stands_once yard i is h c =
    let at : AtBay yard i = at_bay yard i h in
    let once = is.containers_once c in
    rw at.stacks (omega (arith, once, in_one yard.bays c i at.bay at.here))

-- no container stands in two bays
pub apart : (yard : Inventory) → IsYard yard → (c : List ℕ) (i j : ℕ) (a b : StackedBay) → i < j → slice_get yard.bays i ≡ Some a → slice_get yard.bays j ≡ Some b
    → is_among (standing a.1) c ≡ true → is_among (standing b.1) c ≡ true → ⊥
apart yard is c i j a b h e f in_a in_b =
    let once = is.containers_once c in
    omega (arith, once, in_two yard.bays c i j a b h e f, some_times c (standing a.1) in_a, some_times c (standing b.1) in_b)
