-- Which containers of a stack the blocking bound counts.
use Rattle.std.proofs.Common.{◌≡◌, ℕ, zero, suc, ◌<◌, ◌≤◌, get_or, ⊎_elim, ◌↔◌, Bool, true, false, ◌&&◌, nat_le, nat_lt, List, [], ◌∷◌, ◌++◌, length, AllPairs, Contains, Some, slice_get, sum_by, refl, sym, ap, ◌∙◌, subst, arith, append_assoc, length-append}
use Rattle.std.specs.List.{AllZip}
use Rattle.std.proofs.lemmas.Bool.{cases_lt, or_cases, or_left, or_right, and_parts, and_from, leb-true, ltb-true, le-leb, lt-ltb, both_ways}
use Rattle.std.proofs.lemmas.List.Elements.{Contains-get_or}
use Rattle.std.proofs.lemmas.List.Kept.{AllPairs-cons}
use Rattle.std.proofs.lemmas.List.Sums.{sum_by-cons}
use Rattle.std.proofs.lemmas.Option.{same_Some, none-some, slice_get_within}
use Rattle.crp_plan.proofs.Lists.{one_if}
use Rattle.crp_bay.proofs.Members.{not_in_nil, in_head, in_tail, in_cons_cases}
use Rattle.crp_bounds.specs.Bounds.{holds_lower, blocked_in}
use Rattle.crp_bounds.specs.BlockingPlaces.{Blocks, AreBlockers}

-- what stands in the first of two lists, and at the head of the second
get_left : (xs ys : List ℕ) (i : ℕ) → i < length xs → slice_get (xs ++ ys) i ≡ slice_get xs i
get_left [] ys i lt = absurd (omega arith)
get_left (x ∷ xs) ys zero lt = refl
get_left (x ∷ xs) ys (suc i) lt = get_left xs ys i (omega arith)

get_seam : (xs ys : List ℕ) (y : ℕ) → slice_get (xs ++ y ∷ ys) (length xs) ≡ Some y
get_seam [] ys y = refl
get_seam (x ∷ xs) ys y = get_seam xs ys y

-- an ordered rank lower than c, and its index
record LowerAt (ordered c : ℕ) (list : List ℕ) : Type 0 where
  index : ℕ
  lower : ℕ
  stands : slice_get list index ≡ Some lower
  is_ordered : lower ≤ ordered
  is_lower : lower < c

-- the test finds one
found_at : (ordered c : ℕ) (list : List ℕ) → holds_lower ordered c list ≡ true → LowerAt ordered c list
found_at ordered c [] h = absurd (cc)
found_at ordered c (y ∷ list) h = ⊎_elim
    (λ e. let p = and_parts (nat_le y ordered) (nat_lt y c) e in
    record { index = 0; lower = y; stands = refl; is_ordered = leb-true y ordered p.0; is_lower = ltb-true y c p.1 })
    (λ e. let t = found_at ordered c list e in
    record { index = suc t.index; lower = t.lower; stands = t.stands; is_ordered = t.is_ordered; is_lower = t.is_lower })
    (or_cases (nat_le y ordered && nat_lt y c) (holds_lower ordered c list) h)

-- where there is one
finds : (ordered c : ℕ) (list : List ℕ) (i lower : ℕ) → slice_get list i ≡ Some lower → lower ≤ ordered → lower < c → holds_lower ordered c list ≡ true
finds ordered c [] i lower e le lt = absurd (none-some lower e)
finds ordered c (y ∷ list) zero lower e le lt =
    let same : y ≡ lower = same_Some y lower e in
    or_left (nat_le y ordered && nat_lt y c) (holds_lower ordered c list)
    (and_from (nat_le y ordered) (nat_lt y c) (le-leb y ordered (omega arith)) (lt-ltb y c (omega arith)))
finds ordered c (y ∷ list) (suc i) lower e le lt =
    or_right (nat_le y ordered && nat_lt y c) (holds_lower ordered c list) (finds ordered c list i lower e le lt)

-- a container blocks where the test finds a lower one under it
blocks_if : (ordered : ℕ) (under stack : List ℕ) (c : ℕ) → holds_lower ordered c under ≡ true → Blocks ordered (under ++ c ∷ stack) (length under)
blocks_if ordered under stack c e =
    let t = found_at ordered c under e in
    let within : t.index < length under = slice_get_within under t.index t.lower t.stands in
    record {
      rank = c;
      stands = get_seam under stack c;
      under = t.index;
      is_under = within;
      lower = t.lower;
      stands_under = get_left under (c ∷ stack) t.index within ∙ t.stands;
      is_ordered = t.is_ordered;
      is_lower = t.is_lower;
    }

-- and nowhere else
blocks_only : (ordered : ℕ) (under stack : List ℕ) (c : ℕ) → Blocks ordered (under ++ c ∷ stack) (length under) → holds_lower ordered c under ≡ true
blocks_only ordered under stack c b =
    let same : b.rank ≡ c = same_Some b.rank c (sym b.stands ∙ get_seam under stack c) in
    finds ordered c under b.under b.lower (sym (get_left under (c ∷ stack) b.under b.is_under) ∙ b.stands_under) b.is_ordered (omega (arith, b.is_lower, same))

-- the blocking indices from the length of `under` on, as many as are counted
record Counted (ordered : ℕ) (under stack : List ℕ) : Type 0 where
  list : List ℕ
  rising : AllPairs ◌<◌ list
  each : (i : ℕ) → Contains list i ↔ (length under ≤ i) × Blocks ordered (under ++ stack) i
  count : blocked_in ordered under stack ≡ length list

-- one container more at the bottom of those that are counted
counted_more : (ordered : ℕ) (under stack : List ℕ) (c : ℕ) → Counted ordered (under ++ c ∷ []) stack → Counted ordered under (c ∷ stack)
counted_more ordered under stack c next = by_test (holds_lower ordered c under) refl
  where
    later : (i : ℕ) → Contains next.list i ↔ (length (under ++ c ∷ []) ≤ i) × Blocks ordered (under ++ c ∷ stack) i
    later i = subst (λ l. Contains next.list i ↔ (length (under ++ c ∷ []) ≤ i) × Blocks ordered l i) (append_assoc under (c ∷ []) stack) (next.each i)

    longer : length (under ++ c ∷ []) ≡ suc (length under)
    longer = omega (arith, length-append under (c ∷ []))

    by_test : (b : Bool) → holds_lower ordered c under ≡ b → Counted ordered under (c ∷ stack)
    by_test true e = record {
      list = length under ∷ next.list;
      rising = AllPairs-cons ◌<◌ (length under) next.list (λ k d lt. let r = (later (get_or next.list k d)).0 (Contains-get_or next.list k d lt) in omega (arith, longer, r.0)) next.rising;
      each = λ i. (
        λ k. ⊎_elim
            (λ own. (omega arith, subst (Blocks ordered (under ++ c ∷ stack)) own (blocks_if ordered under stack c e)))
            (λ more. let r = (later i).0 more in (omega (arith, longer, r.0), r.1))
            (in_cons_cases (length under) next.list i k),
        λ b. ⊎_elim
            (λ lt. in_tail (length under) next.list i ((later i).1 (omega (arith, longer), b.1)))
            (λ le. let own : length under ≡ i = omega (arith, b.0) in subst (Contains (length under ∷ next.list)) own (in_head (length under) next.list))
            (cases_lt (length under) i),
      );
      count = omega (arith, ap one_if e, next.count);
    }
    by_test false e = record {
      list = next.list;
      rising = next.rising;
      each = λ i. (
        λ k. let r = (later i).0 k in (omega (arith, longer, r.0), r.1),
        λ b. ⊎_elim
            (λ lt. (later i).1 (omega (arith, longer), b.1))
            (λ le. let own : i ≡ length under = omega (arith, b.0) in
            absurd (both_ways (holds_lower ordered c under) e (blocks_only ordered under stack c (subst (Blocks ordered (under ++ c ∷ stack)) own b.1))))
            (cases_lt (length under) i),
      );
      count = omega (arith, ap one_if e, next.count);
    }

counted : (ordered : ℕ) (under stack : List ℕ) → Counted ordered under stack
counted ordered under [] = record {
  list = [];
  rising = λ i j d lt within. absurd (omega arith);
  each = λ i. (
    λ c. absurd (not_in_nil i c),
    λ b. absurd (let k = b.1 in omega (arith, b.0, slice_get_within (under ++ []) i k.rank k.stands, length-append under [])),
  );
  count = refl;
}
counted ordered under (c ∷ stack) = counted_more ordered under stack c (counted ordered (under ++ c ∷ []) stack)

-- stack by stack
pub blocking_counts : (ordered : ℕ) (stacks : List (List ℕ)) → (blockers : List (List ℕ)) × AllZip (AreBlockers ordered) stacks blockers × (sum_by (λ stack. blocked_in ordered [] stack) stacks ≡ sum_by length blockers)
blocking_counts ordered [] = ([], tt, refl)
blocking_counts ordered (stack ∷ stacks) =
    let one = counted ordered [] stack in
    let rest = blocking_counts ordered stacks in (
      one.list ∷ rest.0,
      (record { rising = one.rising; each = λ i. (λ k. ((one.each i).0 k).1, λ b. (one.each i).1 (omega arith, b)) }, rest.1),
      omega (arith, one.count, rest.2, sum_by-cons (λ st. blocked_in ordered [] st) stack stacks, sum_by-cons length one.list rest.0),
    )
