-- Orders by stowage.
use Rattle.std.proofs.Common.{◌≡◌, ◌<◌, ◌+◌, ℕ, suc, Bool, true, false, cond, List, [], ◌∷◌, length, get_or, Some, slice_get, refl, sym, ap, ◌∙◌, arith, inl, inr}
use Rattle.std.specs.Prelude.{filter, Contains}
use Rattle.std.specs.Ordering.{is_lt}
use Rattle.std.specs.Option.{option_map}
use Rattle.std.specs.Cmp.{IsTotalOrder, IsStrictWeakOrder}
use Rattle.std.specs.List.Sorted.{IsSortedBy, ties}
use Rattle.std.proofs.lemmas.Bool.{cases_lt, false≢true, lt-ltb}
use Rattle.std.proofs.lemmas.Cmp.{nat_cmp_total, then_total, on_total}
use Rattle.std.proofs.lemmas.List.Sorted.{sorted_far, ranks_by, Contains-permutation}
use Rattle.std.proofs.lemmas.Option.{slice_get_within, slice_get_read, slice_get-map, get_or_from_slice_get}
use Rattle.crp_movins.specs.declared.order.Order.{Order}
use Rattle.crp_movins.specs.declared.slot.Slot.{Slot}
use Rattle.crp_order.specs.Slots.{IsBeneath}
use Rattle.crp_movins.specs.Accepted.{ordered_containers}
use Rattle.crp_order.specs.declared.sequences.Mode.{Mode}
use Rattle.crp_order.specs.declared.sequences.Mode.TheVariants.{Listed, Stowage}
use Rattle.crp_order.specs.Sequences.{slot_cmp, IsSequence}

pub slots_total : IsTotalOrder slot_cmp
slots_total = then_total (then_total (on_total (λ (s : Slot). s.tier) nat_cmp_total) (on_total (λ (s : Slot). s.bay) nat_cmp_total)) (on_total (λ (s : Slot). s.row) nat_cmp_total)

abbrev pub before : Order → Order → Bool
before a b = is_lt (slot_cmp a.slot b.slot)

pub before_order : IsStrictWeakOrder before
before_order = ranks_by slots_total (λ (order : Order). order.slot)

-- a lower tier comes before
tier_before : (a b : Order) → a.slot.tier < b.slot.tier → before a b ≡ true
tier_before a b h = rw (lt-ltb a.slot.tier b.slot.tier h) refl

not_twice : (b : Bool) → b ≡ true → b ≡ false → ⊥
not_twice b holds fails = false≢true (sym fails ∙ holds)

at_place : (orders : List Order) (i : ℕ) (a : Order) → slice_get orders i ≡ Some a → Contains orders a
at_place orders i a e = (i, slice_get_within orders i a e, get_or_from_slice_get orders i a a e)

-- the container of an order stands where the order does
container_at : (orders : List Order) (k : ℕ) (a : Order) → k < length orders → get_or orders k a ≡ a → slice_get (ordered_containers orders) k ≡ Some a.container
container_at orders k a h e =
    slice_get-map (λ (order : Order). order.container) orders k ∙ ap (option_map (λ (order : Order). order.container)) (slice_get_read orders (length orders) k a refl h (sym e))

pub beneath_first : (orders : List Order) (containers : List (List ℕ)) (i j : ℕ) (a b : Order) → IsSequence Stowage orders containers → slice_get orders i ≡ Some a → slice_get orders j ≡ Some b
    → IsBeneath a.slot b.slot → (k : ℕ) × (l : ℕ) × (k < l) × (slice_get containers k ≡ Some a.container) × (slice_get containers l ≡ Some b.container)
beneath_first orders containers i j a b is at_i at_j beneath =
    let stowed = is.0 in
    let here = Contains-permutation orders stowed a is.1.same_orders (at_place orders i a at_i) in
    let there = Contains-permutation orders stowed b is.1.same_orders (at_place orders j b at_j) in
    elim (cases_lt here.0 there.0) [
      | inl lt ↦ (here.0, there.0, lt, ap (λ c. slice_get c here.0) is.2 ∙ container_at stowed here.0 a here.1 here.2, ap (λ c. slice_get c there.0) is.2 ∙ container_at stowed there.0 b there.1 there.2)
      | inr ge ↦
          let far : before (get_or stowed here.0 a) (get_or stowed there.0 a) ≡ false = sorted_far before before_order stowed is.1.slots_rise there.0 here.0 a ge here.1 in
          let same : get_or stowed there.0 a ≡ b = get_or_from_slice_get stowed there.0 b a (slice_get_read stowed (length stowed) there.0 b refl there.1 (sym there.2)) in
          absurd (not_twice (before a b) (tier_before a b beneath.lower_tier) (ap (before a) (sym same) ∙ ap (λ x. before x (get_or stowed there.0 a)) (sym here.2) ∙ far))
    ]

-- one list is determined by its order and by what is tied in it
self_tie : (x : Order) → before x x ≡ false
self_tie x = by (before x x) refl
  where
    by : (b : Bool) → before x x ≡ b → b ≡ false
    by true e = sym e ∙ before_order.one_way x x e
    by false e = refl

head_is : (x y : Order) (xs ys : List Order) → x ∷ xs ≡ y ∷ ys → x ≡ y
head_is x y xs ys e = cc

tail_is : (x y : Order) (xs ys : List Order) → x ∷ xs ≡ y ∷ ys → xs ≡ ys
tail_is x y xs ys e = cc

-- what a filter begins with stands in the list
in_filter : (p : Order → Bool) (ys : List Order) (x : Order) (rest : List Order) → filter p ys ≡ x ∷ rest → (k : ℕ) × (k < length ys) × (get_or ys k x ≡ x)
in_filter p [] x rest e = cc
in_filter p (y ∷ ys) x rest e = by (p y) e (in_filter p ys x rest)
  where
    by : (b : Bool) → cond b (y ∷ filter p ys) (filter p ys) ≡ x ∷ rest → (filter p ys ≡ x ∷ rest → (k : ℕ) × (k < length ys) × (get_or ys k x ≡ x))
        → (k : ℕ) × (k < suc (length ys)) × (get_or (y ∷ ys) k x ≡ x)
    by true h later = (0, omega arith, head_is y x (filter p ys) rest h)
    by false h later = let found = later h in (suc found.0, omega (arith, found.1), found.2)

-- the first of a list in order is no greater than another of it
first_low : (y : Order) (ys : List Order) (x : Order) (k : ℕ) → IsSortedBy before (y ∷ ys) → k < suc (length ys) → get_or (y ∷ ys) k x ≡ x → before x y ≡ false
first_low y ys x k up h e = ap (λ z. before z y) (sym e) ∙ sorted_far before before_order (y ∷ ys) up 0 k x (omega arith) h

rest_sorted : (x : Order) (xs : List Order) → IsSortedBy before (x ∷ xs) → IsSortedBy before xs
rest_sorted x xs up k d low h =
    let e : suc k + 1 ≡ suc (k + 1) = omega arith in
    ap (λ i. before (get_or (x ∷ xs) i d) (get_or xs k d)) (sym e) ∙ up (suc k) d (omega arith) (omega arith)

tied : (x y : Order) → before x y ≡ false → before y x ≡ false → ties before x y ≡ true
tied x y a b = rw (a, b) refl

filter-first : (p : Order → Bool) (x : Order) (xs : List Order) → p x ≡ true → filter p (x ∷ xs) ≡ x ∷ filter p xs
filter-first p x xs e = ap (λ b. cond b (x ∷ filter p xs) (filter p xs)) e

-- without a common first element the same is tied
without_first : (b : Bool) (x : Order) (xs ys : List Order) → cond b (x ∷ xs) xs ≡ cond b (x ∷ ys) ys → xs ≡ ys
without_first true x xs ys e = tail_is x x xs ys e
without_first false x xs ys e = e

pub one_list : (xs ys : List Order) → IsSortedBy before xs → IsSortedBy before ys → ((z : Order) → filter (ties before z) xs ≡ filter (ties before z) ys) → xs ≡ ys
one_list [] [] up down same = refl
one_list [] (y ∷ ys) up down same = let e : [] ≡ y ∷ filter (ties before y) ys = same y ∙ filter-first (ties before y) y ys (tied y y (self_tie y) (self_tie y)) in cc
one_list (x ∷ xs) [] up down same = let e : x ∷ filter (ties before x) xs ≡ [] = sym (filter-first (ties before x) x xs (tied x x (self_tie x) (self_tie x))) ∙ same x in cc
one_list (x ∷ xs) (y ∷ ys) up down same =
    let mine : filter (ties before x) (x ∷ xs) ≡ x ∷ filter (ties before x) xs = filter-first (ties before x) x xs (tied x x (self_tie x) (self_tie x)) in
    let yours : filter (ties before y) (y ∷ ys) ≡ y ∷ filter (ties before y) ys = filter-first (ties before y) y ys (tied y y (self_tie y) (self_tie y)) in
    let in_ys = in_filter (ties before x) (y ∷ ys) x (filter (ties before x) xs) (sym (same x) ∙ mine) in
    let in_xs = in_filter (ties before y) (x ∷ xs) y (filter (ties before y) ys) (same y ∙ yours) in
    let x_low : before x y ≡ false = first_low y ys x in_ys.0 down in_ys.1 in_ys.2 in
    let y_low : before y x ≡ false = first_low x xs y in_xs.0 up in_xs.1 in_xs.2 in
    let first : x ≡ y = head_is x y (filter (ties before x) xs) (filter (ties before x) ys) (sym mine ∙ same x ∙ filter-first (ties before x) y ys (tied x y x_low y_low)) in
    let rest : xs ≡ ys = one_list xs ys (rest_sorted x xs up) (rest_sorted y ys down)
    (λ z. without_first (ties before z x) x (filter (ties before z) xs) (filter (ties before z) ys)
    (same z ∙ ap (λ w. filter (ties before z) (w ∷ ys)) (sym first))) in
    λ k. first k ∷ rest k

pub one_sequence : (mode : Mode) (orders : List Order) (first second : List (List ℕ)) → IsSequence mode orders first → IsSequence mode orders second → first ≡ second
one_sequence Listed orders first second a b = a ∙ sym b
one_sequence Stowage orders first second a b =
    a.2 ∙ ap ordered_containers (one_list a.0 b.0 a.1.slots_rise b.1.slots_rise (λ z. a.1.one_slot_as_listed z ∙ sym (b.1.one_slot_as_listed z))) ∙ sym b.2
