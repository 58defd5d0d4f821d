-- The bays of a yard, and what stands in them.
use Rattle.std.proofs.Common.{◌≡◌, ◌∙◌, ℕ, zero, suc, ◌+◌, ◌-◌, ◌<◌, arith, Bool, true, false, ◌||◌, cond, List, [], ◌∷◌, ◌++◌, length, map, take, get_or, Option, Some, None, slice_get, refl, sym, ap}
use Rattle.std.specs.List.{list_any}
use Rattle.std.specs.Map.{lookup}
use Rattle.std.specs.Option.{option_map, option_and_then}
use Rattle.std.proofs.lemmas.List.Elements.{recursion_from_All}
use Rattle.std.proofs.lemmas.Option.{same_Some, none-some, slice_get_read}
use Rattle.crp_plan.specs.BayNames.{YardBay, same_bay}
use Rattle.crp_sizes.specs.Sizes.{YardSizes, heights_at}
use Rattle.crp_sizes.proofs.Bays.{same_bay_laws, same_bay_is, same_bay_self}
use Rattle.crp_sizes.proofs.Lists.{looked_up, member}
use Rattle.crp_yard.specs.Inventory.{Inventory, StackedBay, name_at, heights_in_bay, stack_in_bay, FitBay, IsYard}
use Rattle.crp_yard.proofs.BuildingSteps.{take_next}
use Rattle.crp_follow.specs.Crane.{Stack}
use Rattle.crp_follow.specs.Stated.{BayStated}
use Rattle.crp_follow.specs.Faults.{rows_in, is_named}

-- the bay fits under the heights of its rows
abbrev pub Fits : YardSizes → StackedBay → Type 0
Fits sizes b = FitBay (heights_at sizes b.0) b.1

-- the bay with a number, if it has this name
pub record IsBayAt (yard : Inventory) (i : ℕ) (name : YardBay) : Type 0 where
  pub rows : List Stack
  pub is : slice_get yard.bays i ≡ Some (name, rows)

some_bay : (o : Option StackedBay) (name : YardBay) → option_map (λ (b : StackedBay). b.0) o ≡ Some name → (rows : List Stack) × (o ≡ Some (name, rows))
some_bay None name e = absurd (none-some name e)
some_bay (Some b) name e = (b.1, ap (λ (n : YardBay). Some (n, b.1)) (same_Some b.0 name e))

pub bay_at : (yard : Inventory) (i : ℕ) (name : YardBay) → name_at yard i ≡ Some name → IsBayAt yard i name
bay_at yard i name e = let b = some_bay (slice_get yard.bays i) name e in record { rows = b.0; is = b.1 }

pub found : (yard : Inventory) (i : ℕ) (bay name : YardBay) → IsYard yard → name_at yard i ≡ Some name → same_bay bay name ≡ true
    → rows_in yard bay ≡ option_map (λ (b : StackedBay). b.1) (slice_get yard.bays i)
found yard i bay name is e same =
    let at = bay_at yard i name e in
    let looked : lookup (same_bay name) yard.bays ≡ Some at.rows = looked_up same_bay same_bay_laws yard.bays i (name, at.rows) same_bay_self is.bays_once at.is in
    ap (rows_in yard) (same_bay_is bay name same) ∙ looked ∙ sym (ap (option_map (λ (b : StackedBay). b.1)) at.is)

pub heights_of_found : (yard : Inventory) (i : ℕ) (bay name : YardBay) → name_at yard i ≡ Some name → same_bay bay name ≡ true → heights_in_bay yard i ≡ Some (heights_at yard.sizes bay)
heights_of_found yard i bay name e same = ap (option_map (heights_at yard.sizes)) e ∙ ap (λ n. Some (heights_at yard.sizes n)) (sym (same_bay_is bay name same))

or_none : {V : Type 0} (t : Bool) (x : V) (a b : Option V) → cond t (Some x) a ≡ None → (a ≡ None → b ≡ None) → cond t (Some x) b ≡ None
or_none true x a b e h = absurd (none-some x (sym e))
or_none false x a b e h = h e

none_behind : {V : Type 0} (test : YardBay → Bool) (es : List (YardBay × V)) (e : YardBay × V) → lookup test es ≡ None → test e.0 ≡ false → lookup test (es ++ e ∷ []) ≡ None
none_behind test [] e none not = ap (λ t. cond t (Some e.1) None) not
none_behind test (x ∷ es) e none not = or_none (test x.0) x.1 (lookup test es) (lookup test (es ++ e ∷ [])) none (λ h. none_behind test es e h not)

pub not_so_far : (yard : Inventory) (i : ℕ) (bay name : YardBay) → name_at yard i ≡ Some name → lookup (same_bay bay) (take i yard.bays) ≡ None → same_bay bay name ≡ false
    → lookup (same_bay bay) (take (i + 1) yard.bays) ≡ None
not_so_far yard i bay name e none not =
    let at = bay_at yard i name e in
    let next : i + 1 ≡ suc i = omega arith in
    let more : take (i + 1) yard.bays ≡ take i yard.bays ++ (name, at.rows) ∷ [] = ap (λ n. take n yard.bays) next ∙ take_next yard.bays i (name, at.rows) at.is in
    ap (lookup (same_bay bay)) more ∙ none_behind (same_bay bay) (take i yard.bays) (name, at.rows) none not

-- ---- the rows of a bay

row_next : (o : Option StackedBay) (i : ℕ) (stack : Stack) (rows : List Stack) → option_map (λ (b : StackedBay). take i b.1) o ≡ Some rows
    → option_and_then (λ (b : StackedBay). slice_get b.1 ((i + 1) - 1)) o ≡ Some stack → option_map (λ (b : StackedBay). take (i + 1) b.1) o ≡ Some (rows ++ stack ∷ [])
row_next None i stack rows e at = absurd (none-some rows e)
row_next (Some b) i stack rows e at =
    let this : i ≡ (i + 1) - 1 = omega arith in
    let next : i + 1 ≡ suc i = omega arith in
    let here : slice_get b.1 i ≡ Some stack = ap (slice_get b.1) this ∙ at in
    let more : take (i + 1) b.1 ≡ take i b.1 ++ stack ∷ [] = ap (λ n. take n b.1) next ∙ take_next b.1 i stack here in
    ap Some (more ∙ ap (λ l. l ++ stack ∷ []) (same_Some (take i b.1) rows e))

pub row_more : (yard : Inventory) (bay i : ℕ) (stack : Stack) (rows new : List Stack) → option_map (λ (b : StackedBay). take i b.1) (slice_get yard.bays bay) ≡ Some rows
    → stack_in_bay yard bay (i + 1) ≡ Some stack → new ≡ rows ++ stack ∷ [] → option_map (λ (b : StackedBay). take (i + 1) b.1) (slice_get yard.bays bay) ≡ Some new
row_more yard bay i stack rows new e at longer = row_next (slice_get yard.bays bay) i stack rows e at ∙ ap Some (sym longer)

pub as_many_rows : (heights : List ℕ) (rows : List Stack) → FitBay heights rows → length rows ≡ length heights
as_many_rows [] [] fit = refl
as_many_rows [] (stack ∷ rows) fit = absurd fit
as_many_rows (h ∷ heights) [] fit = absurd fit
as_many_rows (h ∷ heights) (stack ∷ rows) fit = ap suc (as_many_rows heights rows fit.1)

take_all : {X : Type 0} (xs : List X) (n : ℕ) → n ≡ length xs → take n xs ≡ xs
take_all xs n e = ap (λ k. take k xs) e ∙ whole xs
  where
    whole : {X : Type 0} (xs : List X) → take (length xs) xs ≡ xs
    whole [] = refl
    whole (x ∷ xs) = ap (λ l. x ∷ l) (whole xs)

all_rows_of : (sizes : YardSizes) (o : Option StackedBay) (heights : List ℕ) (rows : List Stack) (n : ℕ) → ((b : StackedBay) → o ≡ Some b → Fits sizes b)
    → option_map (heights_at sizes) (option_map (λ (b : StackedBay). b.0) o) ≡ Some heights → n ≡ length heights
    → option_map (λ (b : StackedBay). take n b.1) o ≡ Some rows → option_map (λ (b : StackedBay). b.1) o ≡ Some rows
all_rows_of sizes None heights rows n fit is count e = absurd (none-some rows e)
all_rows_of sizes (Some b) heights rows n fit is count e =
    let so_many : length b.1 ≡ n = as_many_rows (heights_at sizes b.0) b.1 (fit b refl) ∙ ap length (same_Some (heights_at sizes b.0) heights is) ∙ sym count in
    ap Some (sym (take_all b.1 n (sym so_many))) ∙ e

pub all_rows : (yard : Inventory) (bay : ℕ) (heights : List ℕ) (rows : List Stack) (n : ℕ) → IsYard yard → heights_in_bay yard bay ≡ Some heights → n ≡ length heights
    → option_map (λ (b : StackedBay). take n b.1) (slice_get yard.bays bay) ≡ Some rows → option_map (λ (b : StackedBay). b.1) (slice_get yard.bays bay) ≡ Some rows
all_rows yard bay heights rows n is there count e =
    all_rows_of yard.sizes (slice_get yard.bays bay) heights rows n
    (λ b at. member (Fits yard.sizes) yard.bays bay b (recursion_from_All (Fits yard.sizes) yard.bays is.bays_fit) at) there count e

-- ---- names that were met

any_at : {X : Type 0} (p : BayStated → Bool) (f : X → BayStated) (xs : List X) (i : ℕ) (x : X) → slice_get xs i ≡ Some x → p (f x) ≡ true → list_any p (map f xs) ≡ true
any_at p f [] i x at e = absurd (none-some x at)
any_at p f (y ∷ xs) zero x at e = let same = same_Some y x at in ap (λ t. t || list_any p (map f xs)) (ap (λ v. p (f v)) same ∙ e)
any_at p f (y ∷ xs) (suc i) x at e = ap (λ t. p (f y) || t) (any_at p f xs i x at e) ∙ or_true (p (f y))
  where
    or_true : (t : Bool) → (t || true) ≡ true
    or_true true = refl
    or_true false = refl

pub named_there : {X : Type 0} (f : X → BayStated) (xs : List X) (i : ℕ) (x : X) (bay : YardBay) → i < length xs → x ≡ get_or xs i x → same_bay (f x).bay bay ≡ true → is_named (map f xs) bay ≡ true
named_there f xs i x bay lt at e = any_at (λ b. same_bay b.bay bay) f xs i x (slice_get_read xs (length xs) i x refl lt at) e
