-- The first stacks of a bay: when one more may follow, when all of them are a problem, and a test of it.
use Rattle.std.proofs.Common.{◌≡◌, ℕ, zero, suc, ◌+◌, ◌-◌, ◌*◌, ◌<◌, ◌≤◌, Bool, true, cond, ◌==◌, ◌&&◌, List, [], ◌∷◌, ◌++◌, length, get_or, refl, sym, ap, ◌∙◌, subst, ⊎_elim, arith, All, nat_le, nat_lt, length-append}
use Rattle.std.specs.List.{list_all, AllByRecursion}
use Rattle.std.proofs.lemmas.Bool.{and_parts, and_from, leb-true, le-leb, ltb-true, lt-ltb, cases_lt, cases_eq, eq-eqb, ne_eqb}
use Rattle.std.proofs.lemmas.Nat.{mul-le}
use Rattle.std.proofs.lemmas.List.Elements.{recursion_from_All, All-from_recursion}
use Rattle.std.proofs.lemmas.List.Sums.{sum_by-cons, sum_by-append, sum_by_push}
use Rattle.crp_plan.specs.Rows.{occurrences, total}
use Rattle.crp_plan.specs.Bay.{IsProblem, cap}
use Rattle.crp_plan.specs.Faults.{stacks_of, stated_with, HasTiers}
use Rattle.crp_plan.proofs.Lists.{times, one_if, times-cons, same_is_one, other_is_zero, occurrences-cons}
use Rattle.std.proofs.lemmas.List.{map-append}
use Rattle.crp_plan.proofs.Tallies.{Row, fits_to, in_stack, in_bay, from_stack, from_bay}
use Rattle.crp_plan.proofs.Heights.{made_with}
use Rattle.crp_cert.specs.declared.size.Size.{Size}
use Rattle.crp_cert.specs.Text.{IsSize}
use Rattle.crp_cert.specs.Faults.{AreHeightsOf, AreFirstStacks, IsNextStack, most_claimed}
use Rattle.crp_cert.specs.Reading.{IsNewRank}
use Rattle.crp_cert.proofs.Readers.{all_to, all_from}
use Rattle.crp_cert.proofs.Heights.{front_push, front_last, front_fewer, front_none, front_whole, front_low, is_front, front_to, front_from, height_low}

-- places in two lists of stacks
occurrences-append : (x : ℕ) (a b : List (List ℕ)) → occurrences x (a ++ b) ≡ occurrences x a + occurrences x b
occurrences-append x a b = sum_by-append (times x) a b

-- places with one more stack
pub occurrences_push : (x : ℕ) (stacks : List (List ℕ)) (stack : List ℕ) → occurrences x (stacks ++ stack ∷ []) ≡ occurrences x stacks + times x stack
occurrences_push x stacks stack = sum_by_push (times x) stacks stack

-- one more stack
pub length_push : (stacks : List (List ℕ)) (stack : List ℕ) → length (stacks ++ stack ∷ []) ≡ suc (length stacks)
length_push stacks stack = omega (arith, length-append stacks (stack ∷ []))

-- a size has few containers
pub few_parsed : (size : Size) → IsSize size → size.total ≤ 96
few_parsed size is =
    let a = is.few_rows in let b = is.few_tiers in let c = is.room in
    omega (arith, mul-le size.rows size.tiers 12 8 a b)

-- ---- one more stack

-- each rank of the stack is new
abbrev pub AreNew : ℕ → List (List ℕ) → List ℕ → Type 0
AreNew most stacks stack = All (IsNewRank most stack stacks) stack

-- no stacks are first stacks
pub no_stacks : (size : Size) (heights : List ℕ) → IsSize size → AreFirstStacks size heights []
no_stacks size heights is =
    let some = is.some_rows in
    record {
      few = omega arith;
      low = front_none heights;
      in_range = λ x lt. absurd (omega arith);
      apart = λ x. omega arith;
      none_missing = λ e. absurd (omega arith);
    }

-- a stack of new ranks may follow, if it completes the ranks where it is the last
pub goes_on : (size : Size) (heights : List ℕ) (stacks : List (List ℕ)) (stack : List ℕ) → AreHeightsOf size heights → AreFirstStacks size heights stacks → length stacks < size.rows →
    length stack ≤ get_or heights (length stacks) 0 → AreNew size.total stacks stack → (suc (length stacks) ≡ size.rows → (x : ℕ) → 1 ≤ x → x ≤ size.total → 0 < occurrences x (stacks ++ stack ∷ [])) →
    IsNextStack size heights stacks stack
goes_on size heights stacks stack are first more low new all = record {
  few = omega (arith, length_push stacks stack);
  low = let each = are.for_each_row in front_push heights stacks stack first.low (omega arith) low;
  in_range = λ x some.
      ⊎_elim
      (λ here. let h = at x here in (h.counts, h.low))
      (λ none. first.in_range x (omega (arith, occurrences_push x stacks stack)))
      (cases_lt 0 (times x stack));
  apart = λ x.
      ⊎_elim
      (λ here. let h = at x here in omega (arith, occurrences_push x stacks stack, h.once, h.new))
      (λ none. omega (arith, occurrences_push x stacks stack, first.apart x))
      (cases_lt 0 (times x stack));
  none_missing = λ e. all (omega (arith, length_push stacks stack));
}
  where
    at : (x : ℕ) → 0 < times x stack → IsNewRank size.total stack stacks x
    at x here = from_stack (IsNewRank size.total stack stacks) stack (recursion_from_All (IsNewRank size.total stack stacks) stack new) x here

-- a stack that may follow has new ranks
pub next_new : (size : Size) (heights : List ℕ) (stacks : List (List ℕ)) (stack : List ℕ) → IsNextStack size heights stacks stack → AreNew size.total stacks stack
next_new size heights stacks stack next = All-from_recursion (IsNewRank size.total stack stacks) stack (in_stack (IsNewRank size.total stack stacks) stack at)
  where
    at : (x : ℕ) → 0 < times x stack → IsNewRank size.total stack stacks x
    at x here =
        let r = next.in_range x (omega (arith, occurrences_push x stacks stack)) in
        record {
          counts = r.0;
          low = r.1;
          once = omega (arith, occurrences_push x stacks stack, next.apart x);
          new = omega (arith, occurrences_push x stacks stack, next.apart x);
        }

-- a stack that may follow is not higher than its row
pub next_low : (size : Size) (heights : List ℕ) (stacks : List (List ℕ)) (stack : List ℕ) → IsNextStack size heights stacks stack → length stack ≤ get_or heights (length stacks) 0
next_low size heights stacks stack next = front_last heights stacks stack next.low

-- nor than eight
pub next_eight : (size : Size) (heights : List ℕ) (stacks : List (List ℕ)) (stack : List ℕ) → AreHeightsOf size heights → IsNextStack size heights stacks stack → length stack ≤ 8
next_eight size heights stacks stack are next =
    let each = are.for_each_row in
    omega (arith, next_low size heights stacks stack next, height_low heights (length stacks) (recursion_from_All (λ height. HasTiers height) heights are.are_heights) (omega (arith, next.few, length_push stacks stack)))

-- ranks have one digit or two
pub next_small : (size : Size) (heights : List ℕ) (stacks : List (List ℕ)) (stack : List ℕ) → IsSize size → IsNextStack size heights stacks stack → AllByRecursion (λ x. x ≤ 99) stack
next_small size heights stacks stack is next = in_stack (λ x. x ≤ 99) stack (λ x here.
    let r = next.in_range x (omega (arith, occurrences_push x stacks stack)) in omega (arith, few_parsed size is, r.1))

-- the stacks before are first stacks too
pub fewer : (size : Size) (heights : List ℕ) (a b : List (List ℕ)) → 1 ≤ length b → AreFirstStacks size heights (a ++ b) → AreFirstStacks size heights a
fewer size heights a b some first =
    let few = first.few in
    record {
      few = omega (arith, length-append a b);
      low = front_fewer heights a b first.low;
      in_range = λ x lt. first.in_range x (omega (arith, occurrences-append x a b));
      apart = λ x. omega (arith, occurrences-append x a b, first.apart x);
      none_missing = λ e. absurd (omega (arith, length-append a b));
    }

-- ---- all stacks

-- how often the ranks from 1 to n stand in a stack, and in all stacks
counted_in : ℕ → List ℕ → ℕ
counted_in zero stack = 0
counted_in (suc n) stack = times (suc n) stack + counted_in n stack

-- how often they stand in all stacks
counted : ℕ → List (List ℕ) → ℕ
counted zero stacks = 0
counted (suc n) stacks = occurrences (suc n) stacks + counted n stacks

-- how many of the ranks from 1 to n are y
hits : ℕ → ℕ → ℕ
hits zero y = 0
hits (suc n) y = one_if (y == suc n) + hits n y

-- none above n
hits_none : (n y : ℕ) → n < y → hits n y ≡ 0
unfolding hits
hits_none zero y lt = refl
hits_none (suc n) y lt = omega (arith, other_is_zero (suc n) y (λ e. omega arith), hits_none n y (omega arith))

-- one within
hits_one : (n y : ℕ) → 1 ≤ y → y ≤ n → hits n y ≡ 1
unfolding hits
hits_one zero y lo hi = absurd (omega arith)
hits_one (suc n) y lo hi =
    ⊎_elim
    (λ e. omega (arith, ap (λ z. one_if (z == suc n)) e, same_is_one (suc n), hits_none n y (omega arith)))
    (λ ne. omega (arith, other_is_zero (suc n) y ne, hits_one n y lo (omega arith)))
    (cases_eq y (suc n))

-- one more rank in a stack
counted_in-cons : (n y : ℕ) (ys : List ℕ) → counted_in n (y ∷ ys) ≡ hits n y + counted_in n ys
unfolding counted_in hits
counted_in-cons zero y ys = refl
counted_in-cons (suc n) y ys = omega (arith, times-cons (suc n) y ys, counted_in-cons n y ys)

-- none in an empty stack
counted_in-nil : (n : ℕ) → counted_in n [] ≡ 0
unfolding counted_in
counted_in-nil zero = refl
counted_in-nil (suc n) = omega (arith, counted_in-nil n)

-- each rank of a stack counts if all are within
counted_in_all : (n : ℕ) (stack : List ℕ) → AllByRecursion (λ x. (1 ≤ x) × (x ≤ n)) stack → counted_in n stack ≡ length stack
counted_in_all n [] within = counted_in-nil n
counted_in_all n (y ∷ ys) within = omega (arith, counted_in-cons n y ys, hits_one n y within.0.0 within.0.1, counted_in_all n ys within.1)

-- none without stacks
counted-nil : (n : ℕ) → counted n [] ≡ 0
unfolding counted
counted-nil zero = refl
counted-nil (suc n) = omega (arith, counted-nil n)

-- one more stack
counted-cons : (n : ℕ) (stack : List ℕ) (stacks : List (List ℕ)) → counted n (stack ∷ stacks) ≡ counted_in n stack + counted n stacks
unfolding counted counted_in
counted-cons zero stack stacks = refl
counted-cons (suc n) stack stacks = omega (arith, occurrences-cons (suc n) stack stacks, counted-cons n stack stacks)

-- each container counts if all are within
counted_all : (n : ℕ) (stacks : List (List ℕ)) → AllByRecursion (λ stack. All (λ x. (1 ≤ x) × (x ≤ n)) stack) stacks → counted n stacks ≡ total stacks
counted_all n [] within = counted-nil n
counted_all n (stack ∷ stacks) within =
    omega (arith, counted-cons n stack stacks, counted_in_all n stack (recursion_from_All (λ x. (1 ≤ x) × (x ≤ n)) stack within.0), counted_all n stacks within.1, sum_by-cons length stack stacks)

-- ranks that stand once each are n
counted_once : (n : ℕ) (stacks : List (List ℕ)) → ((x : ℕ) → 1 ≤ x → x ≤ n → occurrences x stacks ≡ 1) → counted n stacks ≡ n
unfolding counted
counted_once zero stacks once = refl
counted_once (suc n) stacks once = omega (arith, once (suc n) (omega arith) (omega arith), counted_once n stacks (λ x lo hi. once x lo (omega arith)))

-- all stacks hold as many containers as the size says
pub total_is : (size : Size) (heights : List ℕ) (stacks : List (List ℕ)) → AreFirstStacks size heights stacks → length stacks ≡ size.rows → total stacks ≡ size.total
total_is size heights stacks first all =
    sym (counted_all size.total stacks (in_bay (λ x. (1 ≤ x) × (x ≤ size.total)) stacks first.in_range))
    ∙ counted_once size.total stacks (λ x lo hi. omega (arith, first.apart x, first.none_missing all x lo hi))

-- all stacks are a problem
pub problem_is : (size : Size) (heights : List ℕ) (stacks : List (List ℕ)) → IsSize size → AreHeightsOf size heights → AreFirstStacks size heights stacks → length stacks ≡ size.rows →
    IsProblem (stated_with heights size.ordered stacks)
problem_is size heights stacks is are first all =
    let n : total stacks ≡ size.total = total_is size heights stacks first all in
    let a = is.some_rows in let b = is.few_rows in let c = is.ordered_fit in
    let each : length heights ≡ length stacks = are.for_each_row ∙ sym all in
    made_with heights size.ordered stacks ((omega arith, omega arith), each) are.are_heights (front_whole heights stacks (sym each) first.low)
    (record {
      each_once = λ x lo hi. omega (arith, first.apart x, first.none_missing all x lo (omega arith));
      no_other = λ x some. let r = first.in_range x some in (r.0, omega (arith, r.1));
    })
    (omega arith)

-- the cap of the problem is the most that may be claimed
pub cap_is : (size : Size) (heights : List ℕ) (stacks : List (List ℕ)) → AreHeightsOf size heights → cap (stated_with heights size.ordered stacks) ≡ most_claimed size
cap_is size heights stacks are = ap (λ t. size.ordered * (t - 1) + 1) are.largest

-- it has four digits at most
pub few_claimed : (size : Size) → IsSize size → most_claimed size ≤ 9999
few_claimed size is =
    let a : size.ordered ≤ size.total = is.ordered_fit in let b : size.tiers ≤ 8 = is.few_tiers in
    omega (arith, mul-le size.ordered (size.tiers - 1) 96 7 (omega (arith, few_parsed size is)) (omega arith))

-- ---- a test

-- a test that the ranks from 1 to n stand somewhere
abbrev all_there : ℕ → List (List ℕ) → Bool
all_there zero stacks = true
all_there (suc n) stacks = nat_lt 0 (occurrences (suc n) stacks) && all_there n stacks

-- what the test means
all_there_to : (n : ℕ) (stacks : List (List ℕ)) → all_there n stacks ≡ true → (x : ℕ) → 1 ≤ x → x ≤ n → 0 < occurrences x stacks
all_there_to zero stacks e x lo hi = absurd (omega arith)
all_there_to (suc n) stacks e x lo hi =
    let a = and_parts (nat_lt 0 (occurrences (suc n) stacks)) (all_there n stacks) e in
    ⊎_elim
    (λ same. subst (λ z. 0 < occurrences z stacks) (sym same) (ltb-true 0 (occurrences (suc n) stacks) a.0))
    (λ other. all_there_to n stacks a.1 x lo (omega arith))
    (cases_eq x (suc n))

-- and back
all_there_from : (n : ℕ) (stacks : List (List ℕ)) → ((x : ℕ) → 1 ≤ x → x ≤ n → 0 < occurrences x stacks) → all_there n stacks ≡ true
all_there_from zero stacks all = refl
all_there_from (suc n) stacks all = and_from _ _ (lt-ltb 0 (occurrences (suc n) stacks) (all (suc n) (omega arith) (omega arith))) (all_there_from n stacks (λ x lo hi. all x lo (omega arith)))

-- a test of a rank that stands somewhere
abbrev is_placed : Size → List (List ℕ) → ℕ → Bool
is_placed size stacks x = nat_le 1 x && (nat_le x size.total && nat_le (occurrences x stacks) 1)

-- a test that no rank is missing once all stacks are stated
abbrev is_whole : Size → List (List ℕ) → Bool
is_whole size stacks = cond (length stacks == size.rows) (all_there size.total stacks) true

-- a test of first stacks
abbrev pub are_first : Size → List ℕ → List (List ℕ) → Bool
are_first size heights stacks = nat_le (length stacks) size.rows && (is_front heights stacks && (list_all (list_all (is_placed size stacks)) stacks && is_whole size stacks))

-- a rank in range and in one place at most
abbrev Placed : Size → List (List ℕ) → ℕ → Type 0
Placed size stacks x = (1 ≤ x) × (x ≤ size.total) × (occurrences x stacks ≤ 1)

-- what the test of a rank means
placed_to : (size : Size) (stacks : List (List ℕ)) (x : ℕ) → is_placed size stacks x ≡ true → Placed size stacks x
placed_to size stacks x e =
    let a = and_parts (nat_le 1 x) (nat_le x size.total && nat_le (occurrences x stacks) 1) e in
    let b = and_parts (nat_le x size.total) (nat_le (occurrences x stacks) 1) a.1 in
    (leb-true 1 x a.0, leb-true x size.total b.0, leb-true (occurrences x stacks) 1 b.1)

-- and back
placed_from : (size : Size) (stacks : List (List ℕ)) (x : ℕ) → Placed size stacks x → is_placed size stacks x ≡ true
placed_from size stacks x h = and_from _ _ (le-leb 1 x h.0) (and_from _ _ (le-leb x size.total h.1) (le-leb (occurrences x stacks) 1 h.2))

-- what the test of all ranks means
whole_to : (size : Size) (stacks : List (List ℕ)) → is_whole size stacks ≡ true → length stacks ≡ size.rows → (x : ℕ) → 1 ≤ x → x ≤ size.total → 0 < occurrences x stacks
whole_to size stacks e all = all_there_to size.total stacks (sym (ap (λ b. cond b (all_there size.total stacks) true) (eq-eqb (length stacks) size.rows all)) ∙ e)

-- and back
whole_from : (size : Size) (stacks : List (List ℕ)) → (length stacks ≡ size.rows → (x : ℕ) → 1 ≤ x → x ≤ size.total → 0 < occurrences x stacks) → is_whole size stacks ≡ true
whole_from size stacks all =
    ⊎_elim
    (λ e. ap (λ b. cond b (all_there size.total stacks) true) (eq-eqb (length stacks) size.rows e) ∙ all_there_from size.total stacks (all e))
    (λ ne. ap (λ b. cond b (all_there size.total stacks) true) (ne_eqb (length stacks) size.rows ne))
    (cases_eq (length stacks) size.rows)

-- what the test of first stacks means
pub first_to : (size : Size) (heights : List ℕ) (stacks : List (List ℕ)) → are_first size heights stacks ≡ true → AreFirstStacks size heights stacks
first_to size heights stacks e =
    let a = and_parts (nat_le (length stacks) size.rows) (is_front heights stacks && (list_all (list_all (is_placed size stacks)) stacks && is_whole size stacks)) e in
    let b = and_parts (is_front heights stacks) (list_all (list_all (is_placed size stacks)) stacks && is_whole size stacks) a.1 in
    let c = and_parts (list_all (list_all (is_placed size stacks)) stacks) (is_whole size stacks) b.1 in
    let placed = from_bay (Placed size stacks) stacks (all_to (λ stack. All (Placed size stacks) stack) (list_all (is_placed size stacks))
    (λ stack h. All-from_recursion (Placed size stacks) stack (all_to (Placed size stacks) (is_placed size stacks) (placed_to size stacks) stack h)) stacks c.0) in
    record {
      few = leb-true (length stacks) size.rows a.0;
      low = front_to heights stacks b.0;
      in_range = λ x some. let h = placed x some in (h.0, h.1);
      apart = λ x. ⊎_elim (λ some. (placed x some).2) (λ none. omega arith) (cases_lt 0 (occurrences x stacks));
      none_missing = whole_to size stacks c.1;
    }

-- and back
pub first_from : (size : Size) (heights : List ℕ) (stacks : List (List ℕ)) → AreFirstStacks size heights stacks → are_first size heights stacks ≡ true
first_from size heights stacks first =
    and_from _ _ (le-leb (length stacks) size.rows first.few)
    (and_from _ _ (front_from heights stacks first.low)
    (and_from _ _ (all_from (λ stack. All (Placed size stacks) stack) (list_all (is_placed size stacks))
    (λ stack h. all_from (Placed size stacks) (is_placed size stacks) (placed_from size stacks) stack (recursion_from_All (Placed size stacks) stack h)) stacks
    (in_bay (Placed size stacks) stacks (λ x some. let r = first.in_range x some in (r.0, r.1, first.apart x))))
    (whole_from size stacks first.none_missing)))

-- ---- the stacks of lists of bytes

-- the stacks with one more
pub stacks_push : (rows : List Row) (row : Row) → stacks_of (rows ++ row ∷ []) ≡ stacks_of rows ++ row.items ∷ []
stacks_push rows row = map-append (λ (r : Row). r.items) rows (row ∷ [])

-- no first stack is higher than eight
pub first_low : (size : Size) (heights : List ℕ) (rows : List Row) → AreHeightsOf size heights → AreFirstStacks size heights (stacks_of rows) → All (λ (row : Row). length row.items ≤ 8) rows
first_low size heights rows are first =
    fits_to 8 rows (All-from_recursion (λ stack. length stack ≤ 8) (stacks_of rows)
    (front_low heights (stacks_of rows) (recursion_from_All (λ height. HasTiers height) heights are.are_heights) first.low))
