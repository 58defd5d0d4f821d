-- What stands at a turn, and rows that are open, under moves.
use Rattle.std.proofs.Common.{◌≡◌, ℕ, zero, suc, ◌+◌, ◌<◌, ◌≤◌, Bool, true, false, not, ◌&&◌, nat_le, nat_lt, List, [], ◌∷◌, ◌++◌, length, Some, slice_get, count_by, refl, sym, ap, ◌∙◌, ◌⊎◌, inl, inr, ⊎_elim, arith, append-nil}
use Rattle.std.specs.List.{list_any, zip, AllByRecursion}
use Rattle.std.proofs.lemmas.Option.{same_Some}
use Rattle.std.proofs.lemmas.Bool.{cases_Bool, cases_lt, or_cases, or_left, or_right, and_parts, and_from, ltb-true, lt-ltb, le-ltb, le-leb, false_from_ne_true, both_ways}
use Rattle.std.proofs.lemmas.List.Sums.{sum_by-cons}
use Rattle.crp_plan.proofs.Lists.{one_if}
use Rattle.crp_bounds.specs.Bounds.{holds_lower}
use Rattle.crp_bounds.proofs.Stuck.{IsPrefix, any_prefix, length_prefix, one_if-mono}
use Rattle.crp_chains.specs.declared.blocker.Blocker.{Blocker}
use Rattle.crp_chains.specs.Chains.{standing_at, is_open}

pub each_weaker : {X : Type 0} (P Q : X → Type 0) → ((x : X) → P x → Q x) → (xs : List X) → AllByRecursion P xs → AllByRecursion Q xs
each_weaker P Q h [] a = tt
each_weaker P Q h (x ∷ xs) a = (h x a.0, each_weaker P Q h xs a.1)

pub each_both : {X : Type 0} (P Q R : X → Type 0) → ((x : X) → P x → Q x → R x) → (xs : List X) → AllByRecursion P xs → AllByRecursion Q xs → AllByRecursion R xs
each_both P Q R h [] a b = tt
each_both P Q R h (x ∷ xs) a b = (h x a.0 b.0, each_both P Q R h xs a.1 b.1)

pub any_weaker : {X : Type 0} (p q : X → Bool) (xs : List X) → AllByRecursion (λ x. p x ≡ true → q x ≡ true) xs → list_any p xs ≡ true → list_any q xs ≡ true
any_weaker p q [] a h = h
any_weaker p q (x ∷ xs) a h = ⊎_elim
    (λ e. or_left (q x) (list_any q xs) (a.0 e))
    (λ e. or_right (q x) (list_any q xs) (any_weaker p q xs a.1 e))
    (or_cases (p x) (list_any p xs) h)

pub any_none : {X : Type 0} (p : X → Bool) (xs : List X) → AllByRecursion (λ x. p x ≡ false) xs → list_any p xs ≡ false
any_none p [] a = refl
any_none p (x ∷ xs) a = rw (a.0) (any_none p xs a.1)

-- what stands at a turn of two lists, one on the other
pub standing_split : (k : ℕ) (xs ys : List ℕ) →
    ((standing_at k xs ≡ xs) × (standing_at k (xs ++ ys) ≡ xs ++ standing_at k ys)) ⊎ (standing_at k (xs ++ ys) ≡ standing_at k xs)
standing_split k [] ys = inl (refl, refl)
standing_split k (x ∷ xs) ys = ⊎_elim
    (λ lt. inr (rw lt refl))
    (λ ge. ⊎_elim
    (λ p. inl (rw ge (ap (λ l. x ∷ l) p.0), rw ge (ap (λ l. x ∷ l) p.1)))
    (λ e. inr (rw ge (ap (λ l. x ∷ l) e)))
    (standing_split k xs ys))
    (cases_Bool (nat_lt x k))

-- more stands where the stack goes on
pub standing_prefix : (k : ℕ) (xs ys : List ℕ) → IsPrefix (standing_at k xs) (standing_at k (xs ++ ys))
standing_prefix k xs ys = ⊎_elim
    (λ p. (standing_at k ys, p.1 ∙ ap (λ l. l ++ standing_at k ys) (sym p.0)))
    (λ e. ([], e ∙ sym (append-nil (standing_at k xs))))
    (standing_split k xs ys)

-- what stands is the lower part
pub standing_low : (k : ℕ) (xs : List ℕ) → IsPrefix (standing_at k xs) xs
standing_low k [] = ([], refl)
standing_low k (x ∷ xs) = ⊎_elim
    (λ lt. (x ∷ xs, rw lt refl))
    (λ ge. let p = standing_low k xs in (p.0, rw ge (ap (λ l. x ∷ l) p.1)))
    (cases_Bool (nat_lt x k))

-- all stands of a stack on which a container was well placed, at a turn before it leaves
pub standing_push : (ordered k x : ℕ) (xs : List ℕ) → k ≤ ordered → k ≤ x → holds_lower ordered x xs ≡ false → standing_at k (xs ++ x ∷ []) ≡ xs ++ x ∷ []
standing_push ordered k x [] le lo none = rw (le-ltb x k lo) refl
standing_push ordered k x (y ∷ xs) le lo none = ⊎_elim
    (λ lt. absurd (both_ways (holds_lower ordered x (y ∷ xs)) none
    (or_left (nat_le y ordered && nat_lt y x) (holds_lower ordered x xs)
    (and_from (nat_le y ordered) (nat_lt y x) (le-leb y ordered (omega arith)) (lt-ltb y x (omega arith))))))
    (λ ge.
    let tail : holds_lower ordered x xs ≡ false = false_from_ne_true (holds_lower ordered x xs) (λ t. both_ways (holds_lower ordered x (y ∷ xs)) none (or_right (nat_le y ordered && nat_lt y x) (holds_lower ordered x xs) t)) in
    rw (le-ltb y k ge) (ap (λ l. y ∷ l) (standing_push ordered k x xs le lo tail)))
    (cases_lt y k)

not_true : (b : Bool) → not b ≡ true → b ≡ false
not_true true e = cc
not_true false e = refl

not_false : (b : Bool) → b ≡ false → not b ≡ true
not_false b e = rw e refl

-- a row that holds a lower one is not open
pub closed_lower : (ordered height : ℕ) (stack : List ℕ) (b : Blocker) → holds_lower ordered b.rank (standing_at b.turn stack) ≡ true → is_open ordered height stack b ≡ false
closed_lower ordered height stack b low = false_from_ne_true (is_open ordered height stack b) (λ t.
    let p = and_parts (nat_lt (length (standing_at b.turn stack)) height) (not (holds_lower ordered b.rank (standing_at b.turn stack))) t in
    both_ways (holds_lower ordered b.rank (standing_at b.turn stack)) (not_true (holds_lower ordered b.rank (standing_at b.turn stack)) p.1) low)

-- a row with room, that holds no lower one, is open
pub open_room : (ordered height : ℕ) (stack : List ℕ) (b : Blocker) → length stack < height → holds_lower ordered b.rank stack ≡ false → is_open ordered height stack b ≡ true
open_room ordered height stack b room none =
    let W : List ℕ = standing_at b.turn stack in
    let pre : IsPrefix W stack = standing_low b.turn stack in
    let free : holds_lower ordered b.rank W ≡ false = false_from_ne_true (holds_lower ordered b.rank W) (λ t.
    both_ways (holds_lower ordered b.rank stack) none (any_prefix (λ d. nat_le d ordered && nat_lt d b.rank) W stack pre t)) in
    and_from (nat_lt (length W) height) (not (holds_lower ordered b.rank W)) (lt-ltb (length W) height (omega (arith, length_prefix W stack pre))) (not_false (holds_lower ordered b.rank W) free)

-- an open row was open with less in it
pub open_prefix : (ordered height : ℕ) (b : Blocker) (xs ys : List ℕ) → IsPrefix (standing_at b.turn xs) (standing_at b.turn ys) →
    is_open ordered height ys b ≡ true → is_open ordered height xs b ≡ true
open_prefix ordered height b xs ys pre t =
    let W : List ℕ = standing_at b.turn xs in
    let V : List ℕ = standing_at b.turn ys in
    let p = and_parts (nat_lt (length V) height) (not (holds_lower ordered b.rank V)) t in
    let free : holds_lower ordered b.rank W ≡ false = false_from_ne_true (holds_lower ordered b.rank W) (λ u.
    both_ways (holds_lower ordered b.rank V) (not_true (holds_lower ordered b.rank V) p.1) (any_prefix (λ d. nat_le d ordered && nat_lt d b.rank) W V pre u)) in
    let room : length V < height = ltb-true (length V) height p.0 in
    and_from (nat_lt (length W) height) (not (holds_lower ordered b.rank W)) (lt-ltb (length W) height (omega (arith, length_prefix W V pre))) (not_false (holds_lower ordered b.rank W) free)

-- how many rows pass a test
abbrev pub rows_that : (ℕ → List ℕ → Bool) → List ℕ → List (List ℕ) → ℕ
rows_that f heights stacks = count_by (λ row. f row.0 row.1) (zip heights stacks)

pub rows-cons : (f : ℕ → List ℕ → Bool) (h : ℕ) (hs : List ℕ) (x : List ℕ) (xs : List (List ℕ)) → rows_that f (h ∷ hs) (x ∷ xs) ≡ one_if (f h x) + rows_that f hs xs
rows-cons f h hs x xs = sum_by-cons (λ row. one_if (f row.0 row.1)) (h, x) (zip hs xs)

-- a test that passes less often
pub rows_fewer : (f g : ℕ → List ℕ → Bool) (hs : List ℕ) (xs ys : List (List ℕ)) → length xs ≡ length ys →
    ((i h : ℕ) (x y : List ℕ) → slice_get xs i ≡ Some x → slice_get ys i ≡ Some y → g h y ≡ true → f h x ≡ true) → rows_that g hs ys ≤ rows_that f hs xs
rows_fewer f g [] xs ys len k = omega arith
rows_fewer f g (h ∷ hs) [] [] len k = omega arith
rows_fewer f g (h ∷ hs) [] (y ∷ ys) len k = absurd (omega arith)
rows_fewer f g (h ∷ hs) (x ∷ xs) [] len k = absurd (omega arith)
rows_fewer f g (h ∷ hs) (x ∷ xs) (y ∷ ys) len k =
    omega (arith, rows-cons f h hs x xs, rows-cons g h hs y ys, one_if-mono (g h y) (f h x) (k 0 h x y refl refl), rows_fewer f g hs xs ys (omega arith) (λ i. k (suc i)))

-- and that fails at one row where the other passes
pub rows_fewer_at : (f g : ℕ → List ℕ → Bool) (hs : List ℕ) (xs ys : List (List ℕ)) (j height : ℕ) (stack new : List ℕ) → length xs ≡ length ys →
    ((i h : ℕ) (x y : List ℕ) → slice_get xs i ≡ Some x → slice_get ys i ≡ Some y → g h y ≡ true → f h x ≡ true) →
    slice_get hs j ≡ Some height → slice_get xs j ≡ Some stack → slice_get ys j ≡ Some new → f height stack ≡ true → g height new ≡ false →
    suc (rows_that g hs ys) ≤ rows_that f hs xs
rows_fewer_at f g [] xs ys j height stack new len k eh ex ey t u = cc
rows_fewer_at f g (h ∷ hs) [] ys j height stack new len k eh ex ey t u = cc
rows_fewer_at f g (h ∷ hs) (x ∷ xs) [] j height stack new len k eh ex ey t u = cc
rows_fewer_at f g (h ∷ hs) (x ∷ xs) (y ∷ ys) zero height stack new len k eh ex ey t u =
    let a : h ≡ height = same_Some h height eh in
    let b : x ≡ stack = same_Some x stack ex in
    let c : y ≡ new = same_Some y new ey in
    let yes : f h x ≡ true = ap (λ n. f n x) a ∙ ap (f height) b ∙ t in
    let no_more : g h y ≡ false = ap (λ n. g n y) a ∙ ap (g height) c ∙ u in
    omega (arith, rows-cons f h hs x xs, rows-cons g h hs y ys, ap one_if yes, ap one_if no_more, rows_fewer f g hs xs ys (omega arith) (λ i. k (suc i)))
rows_fewer_at f g (h ∷ hs) (x ∷ xs) (y ∷ ys) (suc j) height stack new len k eh ex ey t u =
    omega (
      arith,
      rows-cons f h hs x xs,
      rows-cons g h hs y ys,
      one_if-mono (g h y) (f h x) (k 0 h x y refl refl),
      rows_fewer_at f g hs xs ys j height stack new (omega arith) (λ i. k (suc i)) eh ex ey t u,
    )
