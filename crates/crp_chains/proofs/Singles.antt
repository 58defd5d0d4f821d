-- What the look-ahead bound counts is a family of chains of one container.
use Rattle.std.proofs.Common.{◌≡◌, ℕ, zero, suc, ◌+◌, ◌-◌, ◌<◌, ◌≤◌, Bool, true, false, ◌==◌, ◌||◌, not, nat_le, nat_lt, if◌then◌else◌, List, [], ◌∷◌, ◌++◌, length, map, Some, slice_get, sum_by, count_by, refl, sym, ap, ◌∙◌, subst, ⊎_elim, arith, append_assoc}
use Rattle.std.specs.List.{list_any, AllByRecursion}
use Rattle.std.proofs.lemmas.Option.{same_Some, none-some}
use Rattle.std.proofs.lemmas.Bool.{cases_Bool, cases_eq, cases_lt, or_cases, or_left, or_right, and_parts, leb-true, eqb-true, lt-ltb, le-ltb, ltb-false, eq-eqb, ne_eqb, both_ways, false_from_ne_true}
use Rattle.std.proofs.lemmas.List.Sums.{sum_by-cons, sum_by-append}
use Rattle.crp_plan.specs.Rows.{holds, occurrences, above, below}
use Rattle.crp_plan.specs.Bay.{Position}
use Rattle.crp_plan.proofs.Lists.{times, one_if, times-cons, times_held, times_not_held, at_le_sum, same_is_one, occurrences-cons}
use Rattle.crp_plan.proofs.Buried.{above_absent}
use Rattle.crp_bounds.specs.Bounds.{holds_lower, has_no_place, stuck_from, blocking, look_ahead}
use Rattle.crp_bounds.proofs.Blocked.{lower_from_held}
use Rattle.crp_bounds.proofs.Stuck.{IsPrefix, is_no_place, any_prefix}
use Rattle.crp_bounds.proofs.Cutting.{splits_at, times-append}
use Rattle.crp_chains.specs.declared.blocker.Blocker.{Blocker}
use Rattle.crp_chains.specs.Chains.{IsBlocker, IsChain, IsFamily, ranks_of, standing_at, is_open, open_rows, chain_gain, gain}
use Rattle.crp_chains.proofs.Opening.{standing_low, closed_lower, rows_that, rows-cons}
use Rattle.crp_chains.proofs.Clear.{IsClear}
use Rattle.crp_chains.proofs.Blockers.{holds_own}

-- at the next turn what is below this one's container
standing_more : (k : ℕ) (xs : List ℕ) → below k (standing_at k xs) ≡ standing_at (suc k) xs
standing_more k [] = refl
standing_more k (x ∷ xs) = ⊎_elim
    (λ less. rw (lt-ltb x k less) (rw (lt-ltb x (suc k) (omega arith)) refl))
    (λ ge. rw (le-ltb x k ge) (⊎_elim
    (λ e. rw (eq-eqb x k e) (rw (lt-ltb x (suc k) (omega arith)) refl))
    (λ ne. rw (ne_eqb x k ne) (rw (le-ltb x (suc k) (omega arith)) (ap (λ l. x ∷ l) (standing_more k xs))))
    (cases_eq x k)))
    (cases_lt x k)

all_more : (k : ℕ) (stacks : List (List ℕ)) → map (below k) (map (standing_at k) stacks) ≡ map (standing_at (suc k)) stacks
all_more k [] = refl
all_more k (x ∷ stacks) = ap (λ y. y ∷ map (below k) (map (standing_at k) stacks)) (standing_more k x) ∙ ap (λ l. standing_at (suc k) x ∷ l) (all_more k stacks)

-- before the first turn all stands
standing_first : (k : ℕ) (xs : List ℕ) → ((x : ℕ) → x < k → times x xs ≡ 0) → standing_at k xs ≡ xs
standing_first k [] gone = refl
standing_first k (x ∷ xs) gone =
    let late : k ≤ x = ⊎_elim (λ lt. absurd (omega (arith, gone x lt, times-cons x x xs, same_is_one x))) (λ ge. ge) (cases_lt x k) in
    rw (le-ltb x k late) (ap (λ l. x ∷ l) (standing_first k xs (λ y lt. omega (arith, gone y lt, times-cons y x xs))))

all_first : (k : ℕ) (stacks : List (List ℕ)) → ((x : ℕ) → x < k → occurrences x stacks ≡ 0) → map (standing_at k) stacks ≡ stacks
all_first k [] gone = refl
all_first k (x ∷ stacks) gone =
    ap (λ y. y ∷ map (standing_at k) stacks) (standing_first k x (λ y lt. omega (arith, gone y lt, occurrences-cons y x stacks)))
    ∙ ap (λ l. x ∷ l) (all_first k stacks (λ y lt. omega (arith, gone y lt, occurrences-cons y x stacks)))

-- no lower rank stands at a turn
standing_late : (k x : ℕ) (xs : List ℕ) → holds x (standing_at k xs) ≡ true → k ≤ x
standing_late k x [] h = cc
standing_late k x (y ∷ xs) h = ⊎_elim
    (λ t. let none : holds x [] ≡ true = rw t at h in cc)
    (λ f. let h' : (y == x) || holds x (standing_at k xs) ≡ true = rw f at h in
    ⊎_elim (λ e. let same : y ≡ x = eqb-true y x e in let ge : k ≤ y = ltb-false y k f in omega arith) (λ e. standing_late k x xs e) (or_cases (y == x) (holds x (standing_at k xs)) h'))
    (cases_Bool (nat_lt y k))

abbrev pub lone : ℕ → ℕ → Blocker
lone k c = record { rank = c; turn = k }

abbrev pub single : ℕ → ℕ → List Blocker
single k c = lone k c ∷ []

-- what stands above the container of a turn blocks, and its turn is that
lone_blocks : (s : Position) (i k c : ℕ) (stack : List ℕ) → IsClear s → slice_get s.stacks i ≡ Some stack → k ≤ s.ordered → holds c (above k (standing_at k stack)) ≡ true → IsBlocker s (lone k c)
lone_blocks s i k c stack sound here le h = record {
  beneath = beneath;
  stands = record { row = i; over = above c (above k (standing_at k stack)) ++ pre.0; stands = here ∙ ap (λ z. Some z) whole };
  turn_stands = turn_there;
  is_ordered = le;
  is_lower = lower;
  least = λ x ordered in_it. standing_late k x stack (any_prefix (λ y. y == x) beneath (standing_at k stack) (c ∷ above c (above k (standing_at k stack)), part) in_it);
}
  where
    pre : IsPrefix (standing_at k stack) stack
    pre = standing_low k stack

    held : holds k (standing_at k stack) ≡ true
    held = ⊎_elim
        (λ t. t)
        (λ f. let none : above k (standing_at k stack) ≡ [] = above_absent k (standing_at k stack) (times_not_held k (standing_at k stack) f) in
        let bad : holds c [] ≡ true = ap (holds c) (sym none) ∙ h in cc)
        (cases_Bool (holds k (standing_at k stack)))

    beneath : List ℕ
    beneath = below k (standing_at k stack) ++ k ∷ below c (above k (standing_at k stack))

    part : standing_at k stack ≡ (below k (standing_at k stack) ++ k ∷ below c (above k (standing_at k stack))) ++ c ∷ above c (above k (standing_at k stack))
    part = splits_at k (standing_at k stack) held
        ∙ ap (λ l. below k (standing_at k stack) ++ k ∷ l) (splits_at c (above k (standing_at k stack)) h)
        ∙ sym (append_assoc (below k (standing_at k stack)) (k ∷ below c (above k (standing_at k stack))) (c ∷ above c (above k (standing_at k stack))))

    whole : stack ≡ (below k (standing_at k stack) ++ k ∷ below c (above k (standing_at k stack))) ++ c ∷ (above c (above k (standing_at k stack)) ++ pre.0)
    whole = pre.1 ∙ ap (λ l. l ++ pre.0) part ∙ append_assoc (below k (standing_at k stack) ++ k ∷ below c (above k (standing_at k stack))) (c ∷ above c (above k (standing_at k stack))) pre.0

    turn_there : holds k (below k (standing_at k stack) ++ k ∷ below c (above k (standing_at k stack))) ≡ true
    turn_there = holds_own (below k (standing_at k stack)) k (below c (above k (standing_at k stack)))

    in_it : holds c (standing_at k stack) ≡ true
    in_it = ap (holds c) part ∙ holds_own (below k (standing_at k stack) ++ k ∷ below c (above k (standing_at k stack))) c (above c (above k (standing_at k stack)))

    lower : k < c
    lower = ⊎_elim
        (λ e. absurd (omega (
          arith,
          sound.once k,
          at_le_sum (times k) s.stacks i stack here,
          ap (times k) whole,
          times-append k (below k (standing_at k stack) ++ k ∷ below c (above k (standing_at k stack))) (c ∷ (above c (above k (standing_at k stack)) ++ pre.0)),
          times-cons k c (above c (above k (standing_at k stack)) ++ pre.0),
          times_held k (below k (standing_at k stack) ++ k ∷ below c (above k (standing_at k stack))) turn_there,
          ap (λ n. one_if (n == k)) (sym e),
          same_is_one k,
        )))
        (λ ne. let ge = standing_late k c stack in_it in omega arith)
        (cases_eq k c)

-- no row is open to who has no place
not_open : (ordered k h c : ℕ) (stack : List ℕ) → k ≤ ordered → k < c → is_no_place ordered k h (standing_at k stack) c ≡ true → is_open ordered h stack (lone k c) ≡ false
not_open ordered k h c stack le lt t = ⊎_elim
    (λ full. false_from_ne_true (is_open ordered h stack (lone k c)) (λ o.
    let p = and_parts (nat_lt (length (standing_at k stack)) h) (not (holds_lower ordered c (standing_at k stack))) o in
    let ge = leb-true h (length (standing_at k stack)) full in
    both_ways (nat_lt (length (standing_at k stack)) h) (le-ltb (length (standing_at k stack)) h ge) p.0))
    (λ rest. closed_lower ordered h stack (lone k c) (⊎_elim
    (λ own. lower_from_held ordered k c (standing_at k stack) le lt own)
    (λ low. low)
    (or_cases (holds k (standing_at k stack)) (holds_lower ordered c (standing_at k stack)) rest)))
    (or_cases (nat_le h (length (standing_at k stack))) (holds k (standing_at k stack) || holds_lower ordered c (standing_at k stack)) t)

none_open : (ordered k c : ℕ) (hs : List ℕ) (xs : List (List ℕ)) → k ≤ ordered → k < c → has_no_place ordered k hs (map (standing_at k) xs) c ≡ true →
    rows_that (λ h x. list_any (is_open ordered h x) (single k c)) hs xs ≡ 0
none_open ordered k c [] xs le lt t = refl
none_open ordered k c (h ∷ hs) [] le lt t = refl
none_open ordered k c (h ∷ hs) (x ∷ xs) le lt t =
    let p = and_parts (is_no_place ordered k h (standing_at k x) c) (has_no_place ordered k hs (map (standing_at k) xs) c) t in
    let first : list_any (is_open ordered h x) (single k c) ≡ false = rw (not_open ordered k h c x le lt p.0) refl in
    omega (arith, rows-cons (λ n y. list_any (is_open ordered n y) (single k c)) h hs x xs, ap one_if first, none_open ordered k c hs xs le lt p.1)

-- those of a list that pass a test, each as a chain
abbrev singles : (ℕ → Bool) → ℕ → List ℕ → List (List Blocker)
singles p k [] = []
singles p k (c ∷ cs) = if p c then single k c ∷ singles p k cs else singles p k cs

-- those above the container of a turn
abbrev row_singles : (ℕ → Bool) → ℕ → List (List ℕ) → List (List Blocker)
row_singles p k [] = []
row_singles p k (x ∷ xs) = singles p k (above k x) ++ row_singles p k xs

-- what each of them is
abbrev IsFine : Position → (ℕ → Bool) → ℕ → ℕ → Type 0
IsFine s p k c = IsChain s (single k c) × (p c ≡ true → chain_gain s (single k c) ≡ 1)

record Fine (s : Position) (x_count : ℕ) (family : List (List Blocker)) : Type 0 where
  chains : AllByRecursion (IsChain s) family
  gains : gain s family ≡ x_count

each_append : {X : Type 0} (P : X → Type 0) (xs ys : List X) → AllByRecursion P xs → AllByRecursion P ys → AllByRecursion P (xs ++ ys)
each_append P [] ys a b = b
each_append P (x ∷ xs) ys a b = (a.0, each_append P xs ys a.1 b)

singles_fine : (s : Position) (p : ℕ → Bool) (k : ℕ) (cs : List ℕ) → ((c : ℕ) → holds c cs ≡ true → IsFine s p k c) → Fine s (count_by p cs) (singles p k cs)
singles_fine s p k [] fine = record { chains = tt; gains = refl }
singles_fine s p k (c ∷ cs) fine =
    let rest : Fine s (count_by p cs) (singles p k cs) = singles_fine s p k cs (λ d h. fine d (or_right (c == d) (holds d cs) h)) in
    let one : IsFine s p k c = fine c (or_left (c == c) (holds c cs) (eq-eqb c c refl)) in
    let counts : count_by p (c ∷ cs) ≡ one_if (p c) + count_by p cs = sum_by-cons (λ y. one_if (p y)) c cs in
    ⊎_elim
    (λ t. subst (Fine s (count_by p (c ∷ cs))) (taken t) (record {
      chains = (one.0, rest.chains);
      gains = omega (arith, sum_by-cons (chain_gain s) (single k c) (singles p k cs), one.1 t, rest.gains, counts, ap one_if t);
    }))
    (λ f. subst (Fine s (count_by p (c ∷ cs))) (passed f) (record { chains = rest.chains; gains = omega (arith, rest.gains, counts, ap one_if f) }))
    (cases_Bool (p c))
  where
    taken : p c ≡ true → single k c ∷ singles p k cs ≡ singles p k (c ∷ cs)
    taken t = rw t refl

    passed : p c ≡ false → singles p k cs ≡ singles p k (c ∷ cs)
    passed f = rw f refl

rows_fine : (s : Position) (p : ℕ → Bool) (k : ℕ) (ws : List (List ℕ)) → ((i c : ℕ) (w : List ℕ) → slice_get ws i ≡ Some w → holds c (above k w) ≡ true → IsFine s p k c) →
    Fine s (sum_by (λ w. count_by p (above k w)) ws) (row_singles p k ws)
rows_fine s p k [] fine = record { chains = tt; gains = refl }
rows_fine s p k (w ∷ ws) fine =
    let one : Fine s (count_by p (above k w)) (singles p k (above k w)) = singles_fine s p k (above k w) (λ c h. fine 0 c w refl h) in
    let rest : Fine s (sum_by (λ v. count_by p (above k v)) ws) (row_singles p k ws) = rows_fine s p k ws (λ i. fine (suc i)) in
    record {
      chains = each_append (IsChain s) (singles p k (above k w)) (row_singles p k ws) one.chains rest.chains;
      gains = omega (arith, sum_by-append (chain_gain s) (singles p k (above k w)) (row_singles p k ws), one.gains, rest.gains, sum_by-cons (λ v. count_by p (above k v)) w ws);
    }

-- the family of all turns
abbrev pub family_from : Position → ℕ → ℕ → List (List Blocker)
family_from s zero k = []
family_from s (suc more) k =
    row_singles (has_no_place s.ordered k s.heights (map (standing_at k) s.stacks)) k (map (standing_at k) s.stacks) ++ family_from s more (suc k)

get_map : (f : List ℕ → List ℕ) (xs : List (List ℕ)) (i : ℕ) (w : List ℕ) → slice_get (map f xs) i ≡ Some w → (x : List ℕ) × (slice_get xs i ≡ Some x) × (w ≡ f x)
get_map f [] i w e = absurd (none-some w e)
get_map f (x ∷ xs) zero w e = (x, refl, sym (same_Some (f x) w e))
get_map f (x ∷ xs) (suc i) w e = get_map f xs i w e

turn_fine : (s : Position) (k : ℕ) → IsClear s → k ≤ s.ordered → (i c : ℕ) (w : List ℕ) → slice_get (map (standing_at k) s.stacks) i ≡ Some w → holds c (above k w) ≡ true →
    IsFine s (has_no_place s.ordered k s.heights (map (standing_at k) s.stacks)) k c
turn_fine s k sound le i c w e h =
    let g = get_map (standing_at k) s.stacks i w e in
    let blocks : IsBlocker s (lone k c) = lone_blocks s i k c g.0 sound g.1 le (ap (λ v. holds c (above k v)) (sym g.2) ∙ h) in
    let lower : k < c = blocks.is_lower in (
      record { blockers = (blocks, tt); linked = tt; in_time = tt },
      λ t. let none : open_rows s (single k c) ≡ 0 = none_open s.ordered k c s.heights s.stacks le lower t in omega (arith, none),
    )

all_fine : (s : Position) (more k : ℕ) → IsClear s → more ≤ suc s.ordered - k → Fine s (stuck_from s.ordered s.heights more (map (standing_at k) s.stacks) k) (family_from s more k)
all_fine s zero k sound le = record { chains = tt; gains = refl }
all_fine s (suc more) k sound le =
    let ws : List (List ℕ) = map (standing_at k) s.stacks in
    let p : ℕ → Bool = has_no_place s.ordered k s.heights ws in
    let one : Fine s (sum_by (λ v. count_by p (above k v)) ws) (row_singles p k ws) = rows_fine s p k ws (turn_fine s k sound (omega arith)) in
    let rest = all_fine s more (suc k) sound (omega arith) in
    record {
      chains = each_append (IsChain s) (row_singles p k ws) (family_from s more (suc k)) one.chains rest.chains;
      gains = omega (
        arith,
        sum_by-append (chain_gain s) (row_singles p k ws) (family_from s more (suc k)),
        one.gains,
        rest.gains,
        ap (λ l. stuck_from s.ordered s.heights more l (suc k)) (all_more k s.stacks),
      );
    }

-- each container is in one chain at most
occurrences-append : (x : ℕ) (a b : List (List Blocker)) → occurrences x (map ranks_of (a ++ b)) ≡ occurrences x (map ranks_of a) + occurrences x (map ranks_of b)
occurrences-append x [] b = omega arith
occurrences-append x (c ∷ a) b = omega (arith, occurrences-cons x (ranks_of c) (map ranks_of (a ++ b)), occurrences-cons x (ranks_of c) (map ranks_of a), occurrences-append x a b)

singles_few : (x : ℕ) (p : ℕ → Bool) (k : ℕ) (cs : List ℕ) → occurrences x (map ranks_of (singles p k cs)) ≤ times x cs
singles_few x p k [] = omega arith
singles_few x p k (c ∷ cs) = ⊎_elim
    (λ t. rw t (omega (arith, occurrences-cons x (c ∷ []) (map ranks_of (singles p k cs)), times-cons x c [], times-cons x c cs, singles_few x p k cs)))
    (λ f. rw f (omega (arith, times-cons x c cs, singles_few x p k cs)))
    (cases_Bool (p c))

parts_few : (x k : ℕ) (xs : List ℕ) → times x (above k xs) + times x (below k xs) ≤ times x xs
parts_few x k [] = omega arith
parts_few x k (y ∷ xs) = ⊎_elim
    (λ t. rw t (omega (arith, times-cons x y xs)))
    (λ f. rw f (omega (arith, times-cons x y xs, times-cons x y (below k xs), parts_few x k xs)))
    (cases_Bool (y == k))

rows_few : (x : ℕ) (p : ℕ → Bool) (k : ℕ) (ws : List (List ℕ)) → occurrences x (map ranks_of (row_singles p k ws)) + occurrences x (map (below k) ws) ≤ occurrences x ws
rows_few x p k [] = omega arith
rows_few x p k (w ∷ ws) = omega (
  arith,
  occurrences-append x (singles p k (above k w)) (row_singles p k ws),
  singles_few x p k (above k w),
  parts_few x k w,
  occurrences-cons x (below k w) (map (below k) ws),
  occurrences-cons x w ws,
  rows_few x p k ws,
)

all_few : (s : Position) (x more k : ℕ) → occurrences x (map ranks_of (family_from s more k)) ≤ occurrences x (map (standing_at k) s.stacks)
all_few s x zero k = omega arith
all_few s x (suc more) k =
    let ws : List (List ℕ) = map (standing_at k) s.stacks in
    let p : ℕ → Bool = has_no_place s.ordered k s.heights ws in
    omega (
      arith,
      occurrences-append x (row_singles p k ws) (family_from s more (suc k)),
      rows_few x p k ws,
      all_few s x more (suc k),
      ap (occurrences x) (all_more k s.stacks),
    )

-- some family gains what the look-ahead bound adds
pub ahead_family : (s : Position) → IsClear s → (family : List (List Blocker)) × IsFamily s family × (look_ahead s ≡ blocking s + gain s family)
ahead_family s sound =
    let most : ℕ = suc s.ordered - s.next in
    let first : map (standing_at s.next) s.stacks ≡ s.stacks = all_first s.next s.stacks sound.gone in
    let fine = all_fine s most s.next sound (omega arith) in (
      family_from s most s.next,
      record { chains = fine.chains; apart = λ x. omega (arith, all_few s x most s.next, ap (occurrences x) first, sound.once x) },
      omega (arith, fine.gains, ap (λ l. stuck_from s.ordered s.heights most l s.next) first),
    )
