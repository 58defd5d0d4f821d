-- What the words of the bounds say.
use Rattle.std.proofs.Common.{◌≡◌, ℕ, suc, ◌<◌, ◌≤◌, true, false, ◌==◌, ◌||◌, ◌&&◌, nat_le, nat_lt, List, [], ◌∷◌, ◌++◌, length, Some, slice_get, refl, ap, ◌∙◌, sym, ⊎_elim, arith, append-nil}
use Rattle.std.proofs.lemmas.Option.{same_Some}
use Rattle.std.proofs.lemmas.Bool.{cases_Bool, cases_lt, or_cases, or_left, or_right, and_parts, and_from, leb-true, le-leb, ltb-true, eq-eqb, both_ways}
use Rattle.crp_plan.specs.Rows.{holds, occurrences, above, below}
use Rattle.crp_plan.proofs.Lists.{times_held}
use Rattle.crp_plan.proofs.Determined.{same_row}
use Rattle.crp_plan.proofs.Buried.{above_not_held, below_not_held}
use Rattle.crp_bounds.specs.Bounds.{holds_lower, has_no_place, HasLower, HasNoPlace}
use Rattle.crp_bounds.proofs.Blocked.{lower_from_held}
use Rattle.crp_bounds.proofs.Stuck.{is_no_place, no_place_at}

-- the test of one stack finds a rank
pub lower_found : (ordered c : ℕ) (stack : List ℕ) → holds_lower ordered c stack ≡ true → HasLower ordered c stack
lower_found ordered c [] h = cc
lower_found ordered c (y ∷ stack) h =
    ⊎_elim
    (λ e. let p = and_parts (nat_le y ordered) (nat_lt y c) e in
    record { lower = y; is_ordered = leb-true y ordered p.0; is_lower = ltb-true y c p.1; stands = or_left (y == y) (holds y stack) (eq-eqb y y refl) })
    (λ e. let t = lower_found ordered c stack e in
    record { lower = t.lower; is_ordered = t.is_ordered; is_lower = t.is_lower; stands = or_right (y == t.lower) (holds t.lower stack) t.stands })
    (or_cases (nat_le y ordered && nat_lt y c) (holds_lower ordered c stack) h)

-- each stack without k that is shorter than its height holds a lower one
abbrev pub WithoutPlace : ℕ → ℕ → List ℕ → List (List ℕ) → ℕ → Type 0
WithoutPlace ordered k heights stacks c = (i height : ℕ) (stack : List ℕ) → slice_get heights i ≡ Some height → slice_get stacks i ≡ Some stack →
    holds k stack ≡ false → length stack < height → HasLower ordered c stack

-- what the test says of the stacks without k
pub no_place_reads : (ordered k : ℕ) (heights : List ℕ) (stacks : List (List ℕ)) (c : ℕ) → has_no_place ordered k heights stacks c ≡ true → WithoutPlace ordered k heights stacks c
no_place_reads ordered k heights stacks c t i height stack hi xi other short =
    ⊎_elim
    (λ full. absurd (omega (arith, leb-true height (length stack) full)))
    (λ rest. ⊎_elim (λ own. absurd (both_ways (holds k stack) other own)) (λ low. lower_found ordered c stack low) (or_cases (holds k stack) (holds_lower ordered c stack) rest))
    (or_cases (nat_le height (length stack)) (holds k stack || holds_lower ordered c stack) (no_place_at ordered k heights stacks i height stack c hi xi t))

-- when the test passes
pub no_place_means : (ordered k : ℕ) (heights : List ℕ) (stacks : List (List ℕ)) (c : ℕ) → WithoutPlace ordered k heights stacks c → has_no_place ordered k heights stacks c ≡ true
no_place_means ordered k [] stacks c h = refl
no_place_means ordered k (height ∷ heights) [] c h = refl
no_place_means ordered k (height ∷ heights) (stack ∷ stacks) c h =
    and_from (is_no_place ordered k height stack c) (has_no_place ordered k heights stacks c)
    (⊎_elim
    (λ short. or_right (nat_le height (length stack)) (holds k stack || holds_lower ordered c stack)
    (⊎_elim
    (λ own. or_left (holds k stack) (holds_lower ordered c stack) own)
    (λ other. let l = h 0 height stack refl refl other short in
    or_right (holds k stack) (holds_lower ordered c stack) (lower_from_held ordered l.lower c stack l.is_ordered l.is_lower l.stands))
    (cases_Bool (holds k stack))))
    (λ full. or_left (nat_le height (length stack)) (holds k stack || holds_lower ordered c stack) (le-leb height (length stack) full))
    (cases_lt (length stack) height))
    (no_place_means ordered k heights stacks c (λ i. h (suc i)))

-- the stacks without k are those other than k's own
pub no_place_elsewhere : (ordered k own : ℕ) (heights : List ℕ) (stacks : List (List ℕ)) (stack : List ℕ) (c : ℕ) → slice_get stacks own ≡ Some stack → holds k stack ≡ true → occurrences k stacks ≤ 1 →
    has_no_place ordered k heights stacks c ≡ true → HasNoPlace ordered own heights stacks c
no_place_elsewhere ordered k own heights stacks stack c here held once t i height other ne hi xi short =
    let free : holds k other ≡ false = ⊎_elim
    (λ e. absurd (ne (same_row k stacks i own other stack once xi here (times_held k other e) (times_held k stack held))))
    (λ f. f)
    (cases_Bool (holds k other)) in
    no_place_reads ordered k heights stacks c t i height other hi xi free short

-- and the other way round
pub elsewhere_no_place : (ordered k own : ℕ) (heights : List ℕ) (stacks : List (List ℕ)) (stack : List ℕ) (c : ℕ) → slice_get stacks own ≡ Some stack → holds k stack ≡ true →
    HasNoPlace ordered own heights stacks c → has_no_place ordered k heights stacks c ≡ true
elsewhere_no_place ordered k own heights stacks stack c here held h =
    no_place_means ordered k heights stacks c (λ i height other hi xi free short.
    h i height other
    (λ e. let same : other ≡ stack = same_Some other stack (sym xi ∙ ap (slice_get stacks) e ∙ here) in
    both_ways (holds k stack) (ap (holds k) (sym same) ∙ free) held)
    hi xi short)

-- a stack cut at a rank
pub cut_reads : (k : ℕ) (low high : List ℕ) → holds k low ≡ false → (above k (low ++ k ∷ high) ≡ high) × (below k (low ++ k ∷ high) ≡ low)
cut_reads k low high none =
    (above_not_held k low (k ∷ high) none ∙ head_above k high, below_not_held k low (k ∷ high) none ∙ head_below k low high)
  where
    head_above : (k : ℕ) (high : List ℕ) → above k (k ∷ high) ≡ high
    head_above k high = rw (eq-eqb k k refl) refl

    head_below : (k : ℕ) (low high : List ℕ) → low ++ below k (k ∷ high) ≡ low
    head_below k low high = rw (eq-eqb k k refl) (append-nil low)
