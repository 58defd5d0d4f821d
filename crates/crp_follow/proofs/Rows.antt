-- Containers that are lifted off rows and set down on them.
use Rattle.std.proofs.Common.{◌≡◌, ◌≢◌, ◌∙◌, ℕ, zero, suc, ◌+◌, ◌<◌, ◌≤◌, List, [], ◌∷◌, ◌++◌, length, length-append, Some, slice_get, slice_set, refl, sym, ap, arith}
use Rattle.std.proofs.lemmas.Option.{same_Some, none-some, slice_get_within}
use Rattle.crp_plan.proofs.Lists.{get_put_other}
use Rattle.crp_said.specs.declared.moves.Place.{Place}
use Rattle.crp_yard.specs.Records.{height_of}
use Rattle.crp_follow.specs.Crane.{Stack, stack_of, with_stack, IsHighest, IsLowestFree}

-- the last of a list, and what is before it
pub snoc_same : {A : Type 0} (a b : List A) (x y : A) → a ++ x ∷ [] ≡ b ++ y ∷ [] → (a ≡ b) × (x ≡ y)
snoc_same [] [] x y e = (refl, cc)
snoc_same [] (h ∷ []) x y e = cc
snoc_same [] (h ∷ (k ∷ b)) x y e = cc
snoc_same (h ∷ []) [] x y e = cc
snoc_same (h ∷ (k ∷ a)) [] x y e = cc
snoc_same (h ∷ a) (k ∷ b) x y e =
    let first : h ≡ k = cc in
    let rest : a ++ x ∷ [] ≡ b ++ y ∷ [] = cc in
    let more = snoc_same a b x y rest in
    (ap (λ v. v ∷ a) first ∙ ap (λ l. k ∷ l) more.0, more.1)

-- ---- a row that is there

pub record IsRow (rows : List Stack) (row : ℕ) (stack : Stack) : Type 0 where
  pub index : ℕ
  pub row_is : row ≡ suc index
  pub within : index < length rows
  pub stack_is : slice_get rows index ≡ Some stack

pub row_there : (rows : List Stack) (row : ℕ) (stack : Stack) → stack_of rows row ≡ Some stack → IsRow rows row stack
row_there rows zero stack e = absurd (none-some stack e)
row_there rows (suc i) stack e = record { index = i; row_is = refl; within = slice_get_within rows i stack e; stack_is = e }

pub row_at : (rows : List Stack) (row i : ℕ) (stack : Stack) → row ≡ suc i → slice_get rows i ≡ Some stack → stack_of rows row ≡ Some stack
row_at rows row i stack e at = ap (stack_of rows) e ∙ at

pub put_at : (rows : List Stack) (row i : ℕ) (stack : Stack) → row ≡ suc i → with_stack rows row stack ≡ slice_set rows i stack
put_at rows row i stack e = ap (λ r. with_stack rows r stack) e

-- another row is as before
pub other_row : (rows : List Stack) (from to : ℕ) (stack : Stack) → to ≢ from → stack_of (with_stack rows from stack) to ≡ stack_of rows to
other_row rows zero to stack other = refl
other_row rows (suc i) zero stack other = refl
other_row rows (suc i) (suc j) stack other = get_put_other rows i j stack (λ e. other (ap suc e))

pub free_before : (heights : List ℕ) (rows : List Stack) (from : ℕ) (to : Place) (stack beneath : Stack) → to.row ≢ from
    → IsLowestFree heights (with_stack rows from stack) to beneath → IsLowestFree heights rows to beneath
free_before heights rows from to stack beneath other free =
    record { stack = sym (other_row rows from to.row stack other) ∙ free.stack; tier = free.tier; within = free.within }

pub free_after : (heights : List ℕ) (rows : List Stack) (from : ℕ) (to : Place) (stack beneath : Stack) → to.row ≢ from
    → IsLowestFree heights rows to beneath → IsLowestFree heights (with_stack rows from stack) to beneath
free_after heights rows from to stack beneath other free =
    record { stack = other_row rows from to.row stack other ∙ free.stack; tier = free.tier; within = free.within }

-- ---- the highest container of a row

pub one_highest : (rows : List Stack) (place : Place) (c d : List ℕ) (a b : Stack) → IsHighest rows place c a → IsHighest rows place d b → (a ≡ b) × (c ≡ d)
one_highest rows place c d a b p q = snoc_same a b c d (same_Some _ _ (sym p.stack ∙ q.stack))

pub one_free : (heights : List ℕ) (rows : List Stack) (place : Place) (a b : Stack) → IsLowestFree heights rows place a → IsLowestFree heights rows place b → a ≡ b
one_free heights rows place a b p q = same_Some a b (sym p.stack ∙ q.stack)

length_snoc : (a : Stack) (x : List ℕ) → length (a ++ x ∷ []) ≡ suc (length a)
length_snoc a x = omega (arith, length-append a (x ∷ []))

pub is_lifted : (rows : List Stack) (place : Place) (i : ℕ) (old new : Stack) (c : List ℕ) → place.row ≡ suc i → slice_get rows i ≡ Some old → length old ≡ place.tier
    → old ≡ new ++ c ∷ [] → IsHighest rows place c new
is_lifted rows place i old new c row at tier is = record {
  stack = row_at rows place.row i old row at ∙ ap Some is;
  tier = sym tier ∙ ap length is ∙ length_snoc new c;
}

pub none_of_row : (rows : List Stack) (place : Place) → ((i : ℕ) → place.row ≡ suc i → i < length rows → ⊥) → (c : List ℕ) (beneath : Stack) → ¬ IsHighest rows place c beneath
none_of_row rows place none c beneath highest = let r = row_there rows place.row _ highest.stack in none r.index r.row_is r.within

same_suc : (i j : ℕ) → suc i ≡ suc j → i ≡ j
same_suc i j e = omega arith

-- the stack of a row is the one that stands there
stack_is : (rows : List Stack) (row i : ℕ) (a b : Stack) → row ≡ suc i → slice_get rows i ≡ Some a → stack_of rows row ≡ Some b → a ≡ b
stack_is rows row i a b e at is = same_Some a b (sym (row_at rows row i a e at) ∙ is)

pub none_of_tier : (rows : List Stack) (place : Place) (i : ℕ) (old : Stack) → place.row ≡ suc i → slice_get rows i ≡ Some old → length old ≢ place.tier
    → (c : List ℕ) (beneath : Stack) → ¬ IsHighest rows place c beneath
none_of_tier rows place i old row at other c beneath highest =
    other (ap length (stack_is rows place.row i old (beneath ++ c ∷ []) row at highest.stack) ∙ length_snoc beneath c ∙ sym highest.tier)

pub none_of_empty : (rows : List Stack) (place : Place) (i : ℕ) (old : Stack) → place.row ≡ suc i → slice_get rows i ≡ Some old → old ≡ []
    → (c : List ℕ) (beneath : Stack) → ¬ IsHighest rows place c beneath
none_of_empty rows place i old row at none c beneath highest =
    let e = ap length (stack_is rows place.row i old (beneath ++ c ∷ []) row at highest.stack) ∙ length_snoc beneath c in
    let z : length old ≡ 0 = ap length none in
    omega arith

-- ---- the lowest free place

pub is_free : (heights : List ℕ) (rows : List Stack) (place : Place) (i : ℕ) (old : Stack) → place.row ≡ suc i → slice_get rows i ≡ Some old → length old + 1 ≡ place.tier
    → place.tier ≤ height_of heights place.row → IsLowestFree heights rows place old
is_free heights rows place i old row at tier within = record { stack = row_at rows place.row i old row at; tier = omega arith; within = within }

pub free_row : (heights : List ℕ) (rows : List Stack) (place : Place) → ((i : ℕ) → place.row ≡ suc i → i < length rows → ⊥) → (beneath : Stack) → ¬ IsLowestFree heights rows place beneath
free_row heights rows place none beneath free = let r = row_there rows place.row _ free.stack in none r.index r.row_is r.within

pub free_tier : (heights : List ℕ) (rows : List Stack) (place : Place) (i : ℕ) (old : Stack) → place.row ≡ suc i → slice_get rows i ≡ Some old
    → (beneath : Stack) → IsLowestFree heights rows place beneath → length old + 1 ≡ place.tier
free_tier heights rows place i old row at beneath free =
    let e = ap length (stack_is rows place.row i old beneath row at free.stack) in
    let t : place.tier ≡ suc (length beneath) = free.tier in omega arith
