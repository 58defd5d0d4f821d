-- The bays of one size, and the places in which containers stand in them, with one row or one bay more.
use Rattle.std.proofs.Common.{◌≡◌, ◌∙◌, ℕ, ◌+◌, ◌-◌, ◌≤◌, suc, Bool, true, false, cond, List, [], ◌∷◌, ◌++◌, length, append-nil, map, take, fold, Option, Some, None, slice_get, refl, sym, ap, subst, arith, tests}
use Rattle.std.specs.Prelude.{nat_lt, ◌||◌, max, option_map, option_and_then}
use Rattle.std.specs.List.{list_any}
use Rattle.std.specs.Str.{bytes_eq}
use Rattle.std.proofs.lemmas.List.{map_push, take_more, take_all, length-take-le}
use Rattle.std.proofs.lemmas.List.Elements.{filter-append, All-get_or}
use Rattle.std.proofs.lemmas.List.Sums.{fold-append}
use Rattle.std.proofs.lemmas.Option.{none-some, same_Some, slice_get_within, get_or_from_slice_get}
use Rattle.crp_plan.specs.BayNames.{YardBay}
use Rattle.crp_plan.specs.Rows.{tallest}
use Rattle.crp_sizes.specs.Sizes.{heights_at}
use Rattle.crp_yard.specs.Inventory.{Inventory, StackedBay, IsYard, FitBay, name_at, heights_in_bay, stack_in_bay}
use Rattle.crp_yard.proofs.YardSteps.{fit_rows}
use Rattle.crp_notes.specs.Beyond.{size_of, with_size, sizes_of, of_size, last_row, top_tier, last_row_of, top_tier_of}

-- ---- lists

pub next : {X : Type 0} (xs : List X) (i : ℕ) (x : X) → slice_get xs i ≡ Some x → take (i + 1) xs ≡ take i xs ++ x ∷ []
next xs i x e = take_more xs i x (slice_get_within xs i x e) ∙ ap (λ y. take i xs ++ y ∷ []) (get_or_from_slice_get xs i x x e)

tallest-push : (heights : List ℕ) (height : ℕ) → tallest (heights ++ height ∷ []) ≡ max (tallest heights) height
tallest-push [] height = omega arith
tallest-push (other ∷ heights) height = let more = tallest-push heights height in omega (arith, more)

pub any-map : {X Y : Type 0} (test : Y → Bool) (f : X → Y) (xs : List X) → list_any test (map f xs) ≡ list_any (λ x. test (f x)) xs
any-map test f [] = refl
any-map test f (x ∷ xs) = ap (λ t. test (f x) || t) (any-map test f xs)

-- ---- a bay

last_row-push : (stacks : List (List (List ℕ))) (stack : List (List ℕ)) (t : Bool) → nat_lt 0 (length stack) ≡ t
    → last_row (stacks ++ stack ∷ []) ≡ cond t (length stacks + 1) (last_row stacks)
last_row-push [] stack true e = rw e refl
last_row-push [] stack false e = rw e refl
last_row-push (other ∷ stacks) stack true e =
    let some : nat_lt 0 (length stacks + 1) ≡ true = grind (arith, tests) in
    let one : suc (length stacks + 1) ≡ suc (length stacks) + 1 = omega arith in
    rw (last_row-push stacks stack true e, some) one
last_row-push (other ∷ stacks) stack false e = rw (last_row-push stacks stack false e) refl

-- a stack of it
stack_at : (yard : Inventory) (bay i : ℕ) (stack : List (List ℕ)) (b : StackedBay) → slice_get yard.bays bay ≡ Some b → stack_in_bay yard bay (i + 1) ≡ Some stack → slice_get b.1 i ≡ Some stack
stack_at yard bay i stack b at is =
    let this : (i + 1) - 1 ≡ i = omega arith in
    ap (slice_get b.1) (sym this) ∙ ap (option_and_then (λ (x : StackedBay). slice_get x.1 ((i + 1) - 1))) (sym at) ∙ is

-- its stacks up to one more
pub stacks_more : (yard : Inventory) (bay i : ℕ) (stack : List (List ℕ)) (b : StackedBay) → slice_get yard.bays bay ≡ Some b → stack_in_bay yard bay (i + 1) ≡ Some stack
    → take (i + 1) b.1 ≡ take i b.1 ++ stack ∷ []
stacks_more yard bay i stack b at is = next b.1 i stack (stack_at yard bay i stack b at is)

-- of its rows one more
pub row_more : (yard : Inventory) (bay i : ℕ) (stack : List (List ℕ)) (b : StackedBay) → slice_get yard.bays bay ≡ Some b → stack_in_bay yard bay (i + 1) ≡ Some stack → (t : Bool)
    → nat_lt 0 (length stack) ≡ t → (last_row (take (i + 1) b.1) ≡ cond t (i + 1) (last_row (take i b.1))) × (top_tier (take (i + 1) b.1) ≡ max (top_tier (take i b.1)) (length stack))
row_more yard bay i stack b at is t e =
    let there = stack_at yard bay i stack b at is in
    let more : take (i + 1) b.1 ≡ take i b.1 ++ stack ∷ [] = next b.1 i stack there in
    let long : length (take i b.1) ≡ i = length-take-le i b.1 (let within = slice_get_within b.1 i stack there in omega (arith, within)) in (
      ap last_row more ∙ last_row-push (take i b.1) stack t e ∙ ap (λ n. cond t (n + 1) (last_row (take i b.1))) long,
      ap top_tier more ∙ ap tallest (map_push length (take i b.1) stack) ∙ tallest-push (map length (take i b.1)) (length stack),
    )

size_is : (yard : Inventory) (bay : ℕ) (heights : List ℕ) (b : StackedBay) → slice_get yard.bays bay ≡ Some b → heights_in_bay yard bay ≡ Some heights → size_of yard b ≡ heights
size_is yard bay heights b at e =
    same_Some (size_of yard b) heights (ap (λ (o : Option StackedBay). option_map (heights_at yard.sizes) (option_map (λ (x : StackedBay). x.0) o)) (sym at) ∙ e)

-- its name
pub name_is : (yard : Inventory) (bay : ℕ) (name : YardBay) (b : StackedBay) → slice_get yard.bays bay ≡ Some b → name_at yard bay ≡ Some name → name ≡ b.0
name_is yard bay name b at is = same_Some name b.0 (sym is ∙ ap (option_map (λ (x : StackedBay). x.0)) at)

-- all of its rows
pub all_rows : (yard : Inventory) (bay i : ℕ) (heights : List ℕ) (b : StackedBay) → IsYard yard → slice_get yard.bays bay ≡ Some b → heights_in_bay yard bay ≡ Some heights
    → length heights ≤ i → take i b.1 ≡ b.1
all_rows yard bay i heights b is at e over =
    let fit : FitBay (size_of yard b) b.1 =
    subst (λ (x : StackedBay). FitBay (size_of yard x) x.1) (get_or_from_slice_get yard.bays bay b b at)
    (All-get_or (λ (x : StackedBay). FitBay (size_of yard x) x.1) yard.bays bay b (slice_get_within yard.bays bay b at) is.bays_fit) in
    let many = fit_rows (size_of yard b) b.1 fit in
    let long = ap length (size_is yard bay heights b at e) in
    take_all i b.1 (omega (arith, over, many, long))

-- ---- the bays

-- of a number below their count one has it
some_bay : (yard : Inventory) (bay : ℕ) (heights : List ℕ) → heights_in_bay yard bay ≡ Some heights → (b : StackedBay) × (slice_get yard.bays bay ≡ Some b)
some_bay yard bay heights e = by (slice_get yard.bays bay) refl (sym e)
  where
    by : (o : Option StackedBay) → slice_get yard.bays bay ≡ o → Some heights ≡ heights_in_bay yard bay → (b : StackedBay) × (slice_get yard.bays bay ≡ Some b)
    by None at e = absurd (none-some heights (sym (ap (λ (o : Option StackedBay). option_map (heights_at yard.sizes) (option_map (λ (x : StackedBay). x.0) o)) at) ∙ sym e))
    by (Some b) at e = (b, at)

-- the sizes with one bay more
pub sizes_more : (yard : Inventory) (bay : ℕ) (heights : List ℕ) → heights_in_bay yard bay ≡ Some heights
    → sizes_of yard (take (bay + 1) yard.bays) ≡ with_size (sizes_of yard (take bay yard.bays)) heights
sizes_more yard bay heights e =
    let (b, at) = some_bay yard bay heights e in
    ap (sizes_of yard) (next yard.bays bay b at)
    ∙ ap (λ l. fold with_size [] l) (map_push (size_of yard) (take bay yard.bays) b)
    ∙ fold-append with_size [] (map (size_of yard) (take bay yard.bays)) (size_of yard b ∷ [])
    ∙ ap (with_size (sizes_of yard (take bay yard.bays))) (size_is yard bay heights b at e)

-- with one bay more
pub bay_more : (yard : Inventory) (heights : List ℕ) (bay : ℕ) (own : List ℕ) → heights_in_bay yard bay ≡ Some own → (t : Bool) → bytes_eq own heights ≡ t
    → (b : StackedBay) × (slice_get yard.bays bay ≡ Some b)
    × (of_size yard heights (take (bay + 1) yard.bays) ≡ cond t (of_size yard heights (take bay yard.bays) ++ b ∷ []) (of_size yard heights (take bay yard.bays)))
bay_more yard heights bay own e t test =
    let (b, at) = some_bay yard bay own e in
    let before = take bay yard.bays in
    let same : bytes_eq (size_of yard b) heights ≡ t = ap (λ l. bytes_eq l heights) (size_is yard bay own b at e) ∙ test in (
      b,
      at,
      ap (of_size yard heights) (next yard.bays bay b at) ∙ filter-append (λ (x : StackedBay). bytes_eq (size_of yard x) heights) before (b ∷ [])
          ∙ ap (λ u. of_size yard heights before ++ cond u (b ∷ []) []) same ∙ by b (of_size yard heights before) t,
    )
  where
    by : (b : StackedBay) (before : List StackedBay) (u : Bool) → before ++ cond u (b ∷ []) [] ≡ cond u (before ++ b ∷ []) before
    by b before true = refl
    by b before false = append-nil before

-- the greatest of them with one bay more
pub highest_more : (bays : List StackedBay) (b : StackedBay) → (last_row_of (bays ++ b ∷ []) ≡ max (last_row_of bays) (last_row b.1)) × (top_tier_of (bays ++ b ∷ []) ≡ max (top_tier_of bays) (top_tier b.1))
highest_more bays b = (
  ap tallest (map_push (λ (x : StackedBay). last_row x.1) bays b) ∙ tallest-push (map (λ (x : StackedBay). last_row x.1) bays) (last_row b.1),
  ap tallest (map_push (λ (x : StackedBay). top_tier x.1) bays b) ∙ tallest-push (map (λ (x : StackedBay). top_tier x.1) bays) (top_tier b.1),
)
