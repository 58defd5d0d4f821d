-- Stacks that are cut off, by how much is left of each.
use Rattle.std.proofs.Common.{◌≡◌, ℕ, zero, suc, ◌+◌, ◌<◌, ◌≤◌, min, max, Bool, true, false, ◌==◌, ◌&&◌, nat_le, nat_lt, List, [], ◌∷◌, ◌++◌, length, map, take, get_or, set, count_by, refl, sym, ap, ◌∙◌, ◌⊎◌, inl, inr, ⊎_elim, arith}
use Rattle.std.proofs.lemmas.Bool.{cases_Bool, cases_eq, cases_lt, or_left, or_right, or_cases, eqb-true, eq-eqb, leb-true, leb-false, le-leb, lt-leb, ltb-true, ltb-false, lt-ltb, le-ltb, false_from_ne_true}
use Rattle.std.proofs.lemmas.List.{take_all}
use Rattle.std.proofs.lemmas.List.Sums.{sum_by-cons}
use Rattle.crp_plan.specs.Rows.{holds, occurrences, above, below}
use Rattle.crp_plan.proofs.Lists.{times, one_if, times-cons, times_held, times_not_held, occurrences-cons, same_is_one}
use Rattle.crp_plan.proofs.Buried.{above_absent, below_absent}
use Rattle.crp_bay.specs.Positions.{place}
use Rattle.crp_bounds.specs.Bounds.{holds_lower, has_no_place, stuck_from}
use Rattle.crp_bounds.specs.Leasts.{least_ordered}
use Rattle.crp_bounds.specs.Offers.{cut, offer, offers, greatest}
use Rattle.crp_bounds.proofs.Leasts.{lower_is_least, least_small}
use Rattle.crp_bounds.proofs.Stuck.{counted, counted_absent, cut_absent, is_no_place}

-- a rank stands at most as often in what is left
pub times_take : (x n : ℕ) (xs : List ℕ) → times x (take n xs) ≤ times x xs
times_take x zero xs = omega arith
times_take x (suc n) [] = omega arith
times_take x (suc n) (y ∷ xs) = omega (arith, times-cons x y (take n xs), times-cons x y xs, times_take x n xs)

pub occurrences_cut : (x : ℕ) (left : List ℕ) (stacks : List (List ℕ)) → occurrences x (cut left stacks) ≤ occurrences x stacks
occurrences_cut x left [] = omega arith
occurrences_cut x [] (y ∷ ys) = omega (arith, occurrences-cons x [] (cut [] ys), occurrences-cons x y ys, occurrences_cut x [] ys)
occurrences_cut x (n ∷ left) (y ∷ ys) = omega (arith, occurrences-cons x (take n y) (cut left ys), occurrences-cons x y ys, occurrences_cut x left ys, times_take x n y)

-- what is left of one stack
pub cut_at : (left : List ℕ) (stacks : List (List ℕ)) (r : ℕ) → get_or (cut left stacks) r [] ≡ take (get_or left r 0) (get_or stacks r [])
cut_at [] [] r = refl
cut_at (n ∷ left) [] zero = sym (take_all n [] (omega arith))
cut_at (n ∷ left) [] (suc r) = sym (take_all (get_or left r 0) [] (omega arith))
cut_at [] (y ∷ ys) zero = refl
cut_at [] (y ∷ ys) (suc r) = cut_at [] ys r
cut_at (n ∷ left) (y ∷ ys) zero = refl
cut_at (n ∷ left) (y ∷ ys) (suc r) = cut_at left ys r

-- a rank is left only in its own stack
pub cut_times : (k : ℕ) (left : List ℕ) (stacks : List (List ℕ)) → occurrences k stacks ≤ 1 → occurrences k (cut left stacks) ≡ times k (take (get_or left (place k stacks) 0) (get_or stacks (place k stacks) []))
cut_times k left [] once = sym (ap (times k) (take_all (get_or left 0 0) [] (omega arith)))
cut_times k [] (y ∷ ys) once = omega (arith, occurrences-cons k [] (cut [] ys), none ys)
  where
    none : (zs : List (List ℕ)) → occurrences k (cut [] zs) ≡ 0
    none [] = refl
    none (z ∷ zs) = omega (arith, occurrences-cons k [] (cut [] zs), none zs)
cut_times k (n ∷ left) (y ∷ ys) once = ⊎_elim
    (λ t. rw t (let held = times_held k y t in omega (arith, occurrences-cons k (take n y) (cut left ys), occurrences-cons k y ys, occurrences_cut k left ys)))
    (λ f. rw f (let free = times_not_held k y f in
    omega (arith, occurrences-cons k (take n y) (cut left ys), occurrences-cons k y ys, times_take k n y, cut_times k left ys (omega (arith, occurrences-cons k y ys)))))
    (cases_Bool (holds k y))

-- less is left of one stack
pub cut_set : (left : List ℕ) (stacks : List (List ℕ)) (r n : ℕ) → r < length left → cut (set left r n) stacks ≡ set (cut left stacks) r (take n (get_or stacks r []))
cut_set [] stacks r n lt = absurd (omega arith)
cut_set (m ∷ left) [] r n lt = refl
cut_set (m ∷ left) (y ∷ ys) zero n lt = refl
cut_set (m ∷ left) (y ∷ ys) (suc r) n lt = ap (λ l. take m y ∷ l) (cut_set left ys r n (omega arith))

-- all is left
pub cut_all : (left : List ℕ) (stacks : List (List ℕ)) → ((r : ℕ) → get_or left r 0 ≡ length (get_or stacks r [])) → cut left stacks ≡ stacks
cut_all left [] all = refl
cut_all [] (y ∷ ys) all = rw (empty y (all 0)) (ap (λ l. [] ∷ l) (cut_all [] ys (λ r. all (suc r))))
  where
    empty : (xs : List ℕ) → 0 ≡ length xs → xs ≡ []
    empty [] e = refl
    empty (x ∷ xs) e = absurd (omega arith)
cut_all (n ∷ left) (y ∷ ys) all = ap (λ x. x ∷ cut left ys) (take_all n y (let e = all 0 in omega arith)) ∙ ap (λ l. y ∷ l) (cut_all left ys (λ r. all (suc r)))

-- the stack of a rank that is cut off
pub cut_one : (k : ℕ) (xs : List (List ℕ)) (r : ℕ) → holds k (get_or xs r []) ≡ true → occurrences k xs ≤ 1 → map (below k) xs ≡ set xs r (below k (get_or xs r []))
cut_one k [] r h once = cc
cut_one k (x ∷ xs) zero h once =
    let held = times_held k x h in
    ap (λ l. below k x ∷ l) (cut_absent k xs (omega (arith, occurrences-cons k x xs)))
cut_one k (x ∷ xs) (suc r) h once =
    let rest : 1 ≤ occurrences k xs = held_at xs r h in
    ap (λ l. l ∷ map (below k) xs) (below_absent k x (omega (arith, occurrences-cons k x xs))) ∙ ap (λ l. x ∷ l) (cut_one k xs r h (omega (arith, occurrences-cons k x xs)))
  where
    held_at : (ys : List (List ℕ)) (i : ℕ) → holds k (get_or ys i []) ≡ true → 1 ≤ occurrences k ys
    held_at [] i t = cc
    held_at (y ∷ ys) zero t = let held = times_held k y t in omega (arith, occurrences-cons k y ys)
    held_at (y ∷ ys) (suc i) t = omega (arith, occurrences-cons k y ys, held_at ys i t)

-- what counts above a rank counts in its stack
pub counted_one : (p : ℕ → Bool) (k : ℕ) (xs : List (List ℕ)) (r : ℕ) → holds k (get_or xs r []) ≡ true → occurrences k xs ≤ 1 → counted p k xs ≡ count_by p (above k (get_or xs r []))
counted_one p k [] r h once = cc
counted_one p k (x ∷ xs) zero h once =
    let held = times_held k x h in
    omega (arith, sum_by-cons (λ stack. count_by p (above k stack)) x xs, counted_absent p k xs (omega (arith, occurrences-cons k x xs)))
counted_one p k (x ∷ xs) (suc r) h once =
    let rest : 1 ≤ occurrences k xs = held_at xs r h in
    let none : above k x ≡ [] = above_absent k x (omega (arith, occurrences-cons k x xs)) in
    omega (arith, sum_by-cons (λ stack. count_by p (above k stack)) x xs, ap (count_by p) none, counted_one p k xs r h (omega (arith, occurrences-cons k x xs)))
  where
    held_at : (ys : List (List ℕ)) (i : ℕ) → holds k (get_or ys i []) ≡ true → 1 ≤ occurrences k ys
    held_at [] i t = cc
    held_at (y ∷ ys) zero t = let held = times_held k y t in omega (arith, occurrences-cons k y ys)
    held_at (y ∷ ys) (suc i) t = omega (arith, occurrences-cons k y ys, held_at ys i t)

-- a list that a rank splits
pub splits_at : (k : ℕ) (xs : List ℕ) → holds k xs ≡ true → xs ≡ below k xs ++ k ∷ above k xs
splits_at k [] h = cc
splits_at k (x ∷ xs) h = ⊎_elim
    (λ t. rw t (ap (λ y. y ∷ xs) (eqb-true x k t)))
    (λ f. let h' : holds k xs ≡ true = rw f at h in rw f (ap (λ l. x ∷ l) (splits_at k xs h')))
    (cases_Bool (x == k))

-- how often a rank stands in two lists
pub times-append : (x : ℕ) (xs ys : List ℕ) → times x (xs ++ ys) ≡ times x xs + times x ys
times-append x [] ys = omega arith
times-append x (y ∷ xs) ys = omega (arith, times-cons x y (xs ++ ys), times-cons x y xs, times-append x xs ys)

-- nothing is left of the ranks that were cut off
pub below_times : (x k : ℕ) (xs : List ℕ) → times x (below k xs) ≤ times x xs
below_times x k [] = omega arith
below_times x k (y ∷ xs) = ⊎_elim (λ t. rw t (omega arith)) (λ f. rw f (omega (arith, times-cons x y (below k xs), times-cons x y xs, below_times x k xs))) (cases_Bool (y == k))

pub below_own : (k : ℕ) (xs : List ℕ) → times k (below k xs) ≡ 0
below_own k [] = refl
below_own k (y ∷ xs) = ⊎_elim (λ t. rw t refl) (λ f. rw f (omega (arith, times-cons k y (below k xs), ap one_if f, below_own k xs))) (cases_Bool (y == k))

pub gone_below : (x k : ℕ) (xs : List (List ℕ)) → occurrences x (map (below k) xs) ≤ occurrences x xs
gone_below x k [] = omega arith
gone_below x k (y ∷ ys) = omega (arith, occurrences-cons x (below k y) (map (below k) ys), occurrences-cons x y ys, below_times x k y, gone_below x k ys)

pub gone_own : (k : ℕ) (xs : List (List ℕ)) → occurrences k (map (below k) xs) ≡ 0
gone_own k [] = refl
gone_own k (y ∷ ys) = omega (arith, occurrences-cons k (below k y) (map (below k) ys), below_own k y, gone_own k ys)

-- a rank that is held in what is left
pub held_in : (k : ℕ) (xs : List (List ℕ)) (r : ℕ) → holds k (get_or xs r []) ≡ true → times k (get_or xs r []) ≤ occurrences k xs
held_in k [] r h = cc
held_in k (x ∷ xs) zero h = omega (arith, occurrences-cons k x xs)
held_in k (x ∷ xs) (suc r) h = omega (arith, occurrences-cons k x xs, held_in k xs r h)

-- the least is at most each ordered rank
pub least_le : (ordered x : ℕ) (xs : List ℕ) → holds x xs ≡ true → x ≤ ordered → least_ordered ordered xs ≤ x
least_le ordered x [] h le = cc
least_le ordered x (y ∷ xs) h le = ⊎_elim
    (λ t. let e : y ≡ x = eqb-true y x t in let a : nat_le y ordered ≡ true = le-leb y ordered (omega arith) in rw a (omega arith))
    (λ t. let ih = least_le ordered x xs t le in ⊎_elim (λ a. rw a (omega arith)) (λ a. rw a ih) (cases_Bool (nat_le y ordered)))
    (or_cases (y == x) (holds x xs) h)

-- and stands in the list
pub least_held : (ordered : ℕ) (xs : List ℕ) (k : ℕ) → least_ordered ordered xs ≡ k → k < 255 → holds k xs ≡ true
least_held ordered [] k e lt = absurd (omega arith)
least_held ordered (y ∷ xs) k e lt = ⊎_elim
    (λ a. let e' : min y (least_ordered ordered xs) ≡ k = rw a at e in
    ⊎_elim
    (λ less. or_left (y == k) (holds k xs) (eq-eqb y k (omega arith)))
    (λ le. or_right (y == k) (holds k xs) (least_held ordered xs k (omega arith) lt))
    (cases_lt y (least_ordered ordered xs)))
    (λ a. let e' : least_ordered ordered xs ≡ k = rw a at e in or_right (y == k) (holds k xs) (least_held ordered xs k e' lt))
    (cases_Bool (nat_le y ordered))

-- where lower ranks are gone, a rank is the least exactly where it is held
pub least_is : (ordered k : ℕ) (xs : List ℕ) → k ≤ ordered → ordered ≤ 96 → ((d : ℕ) → d < k → times d xs ≡ 0) → holds k xs ≡ true → least_ordered ordered xs ≡ k
least_is ordered k xs le few gone h =
    let a = least_le ordered k xs h le in
    ⊎_elim
    (λ lt. let held = times_held (least_ordered ordered xs) xs (least_held ordered xs (least_ordered ordered xs) refl (omega arith)) in let none = gone (least_ordered ordered xs) lt in absurd (omega arith))
    (λ ge. omega arith)
    (cases_lt (least_ordered ordered xs) k)

-- the test of a row is whether what it offers is lower
pub offer_test : (ordered k height c : ℕ) (stack : List ℕ) → k ≤ ordered → k < c → c ≤ 255 → is_no_place ordered k height stack c ≡ nat_lt (offer ordered height stack) c
offer_test ordered k height c stack le lt few = ⊎_elim
    (λ full. rw full (sym (lt-ltb 0 c (omega arith))))
    (λ room. rw room (⊎_elim
    (λ own. rw own (sym (lt-ltb (least_ordered ordered stack) c (let a = least_le ordered k stack own le in omega arith))))
    (λ other. rw other (lower_is_least ordered c stack few))
    (cases_Bool (holds k stack))))
    (cases_Bool (nat_le height (length stack)))

-- the greater of two is below where both are
pub lt_max : (a b c : ℕ) → (nat_lt a c && nat_lt b c) ≡ nat_lt (max a b) c
lt_max a b c = ⊎_elim
    (λ t. rw t (⊎_elim
    (λ u. u ∙ sym (lt-ltb (max a b) c (let lt = ltb-true a c t in let lt' = ltb-true b c u in omega arith)))
    (λ g. g ∙ sym (le-ltb (max a b) c (let le = ltb-false b c g in omega arith)))
    (cases_Bool (nat_lt b c))))
    (λ f. rw f (sym (le-ltb (max a b) c (let le = ltb-false a c f in omega arith))))
    (cases_Bool (nat_lt a c))

-- a container has no place where every offer is lower
pub no_place_test : (ordered k c : ℕ) (heights : List ℕ) (stacks : List (List ℕ)) → k ≤ ordered → k < c → c ≤ 255 → has_no_place ordered k heights stacks c ≡ nat_lt (greatest (offers ordered heights stacks)) c
no_place_test ordered k c [] stacks le lt few = sym (lt-ltb 0 c (omega arith))
no_place_test ordered k c (h ∷ hs) [] le lt few = sym (lt-ltb 0 c (omega arith))
no_place_test ordered k c (h ∷ hs) (x ∷ xs) le lt few =
    ap (λ b. b && has_no_place ordered k hs xs c) (offer_test ordered k h c x le lt few)
    ∙ ap (λ b. nat_lt (offer ordered h x) c && b) (no_place_test ordered k c hs xs le lt few)
    ∙ lt_max (offer ordered h x) (greatest (offers ordered hs xs)) c

-- one offer changes where its stack does
pub offers_set : (ordered : ℕ) (heights : List ℕ) (stacks : List (List ℕ)) (r : ℕ) (stack : List ℕ) → offers ordered heights (set stacks r stack) ≡ set (offers ordered heights stacks) r (offer ordered (get_or heights r 0) stack)
offers_set ordered [] stacks r stack = refl
offers_set ordered (h ∷ hs) [] r stack = refl
offers_set ordered (h ∷ hs) (x ∷ xs) zero stack = refl
offers_set ordered (h ∷ hs) (x ∷ xs) (suc r) stack = ap (λ l. offer ordered h x ∷ l) (offers_set ordered hs xs r stack)

-- the greatest of all where one of them rises
pub greatest_set : (xs : List ℕ) (r x : ℕ) → r < length xs → get_or xs r 0 ≤ x → greatest (set xs r x) ≡ max (greatest xs) x
greatest_set [] r x lt le = absurd (omega arith)
greatest_set (y ∷ ys) zero x lt le = omega arith
greatest_set (y ∷ ys) (suc r) x lt le = let ih = greatest_set ys r x (omega arith) le in omega arith

-- a row offers no more than the least of its stack
pub offer_low : (ordered : ℕ) (heights : List ℕ) (stacks : List (List ℕ)) (r : ℕ) → get_or (offers ordered heights stacks) r 0 ≤ least_ordered ordered (get_or stacks r [])
offer_low ordered [] stacks r = omega arith
offer_low ordered (h ∷ hs) [] r = omega arith
offer_low ordered (h ∷ hs) (x ∷ xs) zero = ⊎_elim (λ full. rw full (omega arith)) (λ room. rw room (omega arith)) (cases_Bool (nat_le h (length x)))
offer_low ordered (h ∷ hs) (x ∷ xs) (suc r) = offer_low ordered hs xs r

-- a row with room and without ordered containers
abbrev pub IsOpen : ℕ → List ℕ → List (List ℕ) → Type 0
IsOpen ordered [] stacks = ⊥
IsOpen ordered (h ∷ hs) [] = ⊥
IsOpen ordered (h ∷ hs) (x ∷ xs) = ((length x < h) × (least_ordered ordered x ≡ 255)) ⊎ IsOpen ordered hs xs

-- there is one where the greatest offer is 255
pub open_found : (ordered : ℕ) (heights : List ℕ) (stacks : List (List ℕ)) → greatest (offers ordered heights stacks) ≡ 255 → IsOpen ordered heights stacks
open_found ordered [] stacks e = absurd (omega arith)
open_found ordered (h ∷ hs) [] e = absurd (omega arith)
open_found ordered (h ∷ hs) (x ∷ xs) e = ⊎_elim
    (λ lt. inr (open_found ordered hs xs (omega arith)))
    (λ ge. ⊎_elim
    (λ full. let zero_is : offer ordered h x ≡ 0 = rw full refl in absurd (omega arith))
    (λ room. let is : offer ordered h x ≡ least_ordered ordered x = rw room refl in inl (leb-false h (length x) room, let b = least_small ordered x in omega arith))
    (cases_Bool (nat_le h (length x))))
    (cases_lt (offer ordered h x) 255)

-- a lower part has no lower least
pub least_below : (ordered k : ℕ) (xs : List ℕ) → least_ordered ordered xs ≤ least_ordered ordered (below k xs)
least_below ordered k [] = omega arith
least_below ordered k (y ∷ xs) = ⊎_elim
    (λ t. rw t (least_small ordered (y ∷ xs)))
    (λ f. rw f (let ih = least_below ordered k xs in ⊎_elim (λ a. rw a (omega arith)) (λ a. rw a ih) (cases_Bool (nat_le y ordered))))
    (cases_Bool (y == k))

pub below_shorter : (k : ℕ) (xs : List ℕ) → length (below k xs) ≤ length xs
below_shorter k [] = omega arith
below_shorter k (y ∷ xs) = ⊎_elim (λ t. rw t (omega arith)) (λ f. rw f (omega (arith, below_shorter k xs))) (cases_Bool (y == k))

-- it stays where stacks are cut off
pub open_stays : (ordered k : ℕ) (heights : List ℕ) (stacks : List (List ℕ)) → IsOpen ordered heights stacks → IsOpen ordered heights (map (below k) stacks)
open_stays ordered k [] stacks o = absurd o
open_stays ordered k (h ∷ hs) [] o = absurd o
open_stays ordered k (h ∷ hs) (x ∷ xs) o = ⊎_elim
    (λ here. let short = here.0 in let none = here.1 in inl (omega (arith, below_shorter k x), omega (arith, least_below ordered k x, least_small ordered (below k x))))
    (λ there. inr (open_stays ordered k hs xs there))
    o

-- without ordered containers no lower one stands
none_ordered : (ordered c : ℕ) (xs : List ℕ) → ordered ≤ 96 → least_ordered ordered xs ≡ 255 → holds_lower ordered c xs ≡ false
none_ordered ordered c [] few e = refl
none_ordered ordered c (y ∷ xs) few e = ⊎_elim
    (λ a. let e' : min y (least_ordered ordered xs) ≡ 255 = rw a at e in let b = leb-true y ordered a in absurd (omega arith))
    (λ a. let e' : least_ordered ordered xs ≡ 255 = rw a at e in rw a (none_ordered ordered c xs few e'))
    (cases_Bool (nat_le y ordered))

-- each container finds a place there
pub open_place : (ordered k c : ℕ) (heights : List ℕ) (stacks : List (List ℕ)) → k ≤ ordered → ordered ≤ 96 → IsOpen ordered heights stacks → has_no_place ordered k heights stacks c ≡ false
open_place ordered k c [] stacks le few o = absurd o
open_place ordered k c (h ∷ hs) [] le few o = absurd o
open_place ordered k c (h ∷ hs) (x ∷ xs) le few o = ⊎_elim
    (λ here.
    let none = here.1 in
    let a : nat_le h (length x) ≡ false = lt-leb h (length x) here.0 in
    let b : holds k x ≡ false = false_from_ne_true (holds k x) (λ t. let l = least_le ordered k x t le in absurd (omega arith)) in
    let c' : holds_lower ordered c x ≡ false = none_ordered ordered c x few here.1 in
    rw (a, b, c') refl)
    (λ there. let ih = open_place ordered k c hs xs le few there in all_false (is_no_place ordered k h x c) (has_no_place ordered k hs xs c) ih)
    o
  where
    all_false : (p q : Bool) → q ≡ false → (p && q) ≡ false
    all_false true q e = e
    all_false false q e = refl

count_none : (p : ℕ → Bool) → ((c : ℕ) → p c ≡ false) → (xs : List ℕ) → count_by p xs ≡ 0
count_none p none [] = refl
count_none p none (x ∷ xs) = omega (arith, sum_by-cons (λ c. one_if (p c)) x xs, ap one_if (none x), count_none p none xs)

counted_none : (p : ℕ → Bool) (k : ℕ) → ((c : ℕ) → p c ≡ false) → (xs : List (List ℕ)) → counted p k xs ≡ 0
counted_none p k none [] = refl
counted_none p k none (x ∷ xs) = omega (arith, sum_by-cons (λ stack. count_by p (above k stack)) x xs, count_none p none (above k x), counted_none p k none xs)

-- so nothing counts from there on
pub open_ends : (ordered : ℕ) (heights : List ℕ) (more : ℕ) (stacks : List (List ℕ)) (k : ℕ) → k + more ≤ suc ordered → ordered ≤ 96 → IsOpen ordered heights stacks → stuck_from ordered heights more stacks k ≡ 0
open_ends ordered heights zero stacks k le few o = refl
open_ends ordered heights (suc more) stacks k le few o =
    omega (
      arith,
      counted_none (has_no_place ordered k heights stacks) k (λ c. open_place ordered k c heights stacks (omega arith) few o) stacks,
      open_ends ordered heights more (map (below k) stacks) (suc k) (omega arith) few (open_stays ordered k heights stacks o),
    )

-- tests that agree on a list count the same there
pub count_same : (p q : ℕ → Bool) (xs : List ℕ) → ((c : ℕ) → holds c xs ≡ true → p c ≡ q c) → count_by p xs ≡ count_by q xs
count_same p q [] same = refl
count_same p q (x ∷ xs) same =
    omega (
      arith,
      sum_by-cons (λ c. one_if (p c)) x xs,
      sum_by-cons (λ c. one_if (q c)) x xs,
      ap one_if (same x (or_left (x == x) (holds x xs) (eq-eqb x x refl))),
      count_same p q xs (λ c h. same c (or_right (x == c) (holds c xs) h)),
    )

-- what stands above a rank is greater, where lower ranks are gone and it stands once
pub above_greater : (k c : ℕ) (xs : List ℕ) → holds k xs ≡ true → times k xs ≤ 1 → ((d : ℕ) → d < k → times d xs ≡ 0) → holds c (above k xs) ≡ true → k < c
above_greater k c xs h once gone held =
    let split : xs ≡ below k xs ++ k ∷ above k xs = splits_at k xs h in
    let t : (x : ℕ) → times x xs ≡ times x (below k xs) + (one_if (k == x) + times x (above k xs)) = λ x. ap (times x) split ∙ times-append x (below k xs) (k ∷ above k xs) ∙ ap (λ n. times x (below k xs) + n) (times-cons x k (above k xs)) in
    let some = times_held c (above k xs) held in
    ⊎_elim
    (λ lt. absurd (omega (arith, gone c lt, t c)))
    (λ ge. ⊎_elim
    (λ e. absurd (omega (arith, t k, same_is_one k, ap (λ x. times x (above k xs)) e)))
    (λ ne. omega arith)
    (cases_eq c k))
    (cases_lt c k)
