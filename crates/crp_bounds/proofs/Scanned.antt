-- What the count of the look-ahead bound reads of a position.
use Rattle.std.proofs.Common.{◌≡◌, ◌≢◌, ℕ, zero, suc, ◌+◌, ◌-◌, ◌<◌, ◌≤◌, true, false, ◌==◌, max, List, [], ◌∷◌, length, take, drop, get_or, set, Some, slice_get, count_by, nat_lt, refl, sym, ap, ◌∙◌, subst, ⊎_elim, arith, All}
use Rattle.std.proofs.Math.Seq.{drop-cons}
use Rattle.std.proofs.lemmas.Bool.{cases_Bool, cases_lt, eqb-true, or_cases, lt-leb}
use Rattle.std.proofs.lemmas.List.{get_or-take, length-take, get_or-set_same, get_or-set_other}
use Rattle.std.proofs.lemmas.Option.{slice_get_within, get_or_from_slice_get, same_Some}
use Rattle.crp_plan.specs.Rows.{holds, occurrences, above, below, FitRows}
use Rattle.crp_plan.specs.Bay.{Position}
use Rattle.crp_plan.proofs.Lists.{times, times_not_held}
use Rattle.crp_bay.specs.Positions.{place}
use Rattle.crp_bay.specs.Reached.{IsReached}
use Rattle.crp_bay.proofs.Reaching.{reached_sound, reached_rows, reached_same_rows, reached_ordered, reached_next, reached_low}
use Rattle.crp_bounds.specs.Bounds.{stuck_from, stuck_now}
use Rattle.crp_bounds.specs.Leasts.{least_ordered}
use Rattle.crp_bounds.specs.Offers.{cut, offer, offers, greatest}
use Rattle.crp_bounds.proofs.Cutting.{cut_all, least_is, least_held, held_in, cut_at, offer_low, open_found, open_ends}
use Rattle.crp_bounds.proofs.Leasts.{least_small}
use Rattle.crp_bounds.proofs.Tallying.{Ahead, Bay, Met}

-- beyond the rows there is nothing
pub beyond : {X : Type 0} (xs : List X) (r : ℕ) (d : X) → length xs ≤ r → get_or xs r d ≡ d
beyond [] r d h = refl
beyond (x ∷ xs) zero d h = absurd (omega arith)
beyond (x ∷ xs) (suc r) d h = beyond xs r d (omega arith)

-- each stack fits its row
fit_rows : (heights : List ℕ) (stacks : List (List ℕ)) (r : ℕ) → FitRows heights stacks → length (get_or stacks r []) ≤ get_or heights r 0
fit_rows [] [] r fit = omega arith
fit_rows [] (x ∷ xs) r fit = absurd fit
fit_rows (h ∷ hs) [] r fit = absurd fit
fit_rows (h ∷ hs) (x ∷ xs) zero fit = fit.0
fit_rows (h ∷ hs) (x ∷ xs) (suc r) fit = fit_rows hs xs r fit.1

-- what holds of the bay of a reached position
pub bay_of : (s : Position) → IsReached s → Bay s.ordered s.heights s.stacks
bay_of s r =
    let sound = reached_sound s r in
    record {
      same_rows = sym (reached_same_rows s r);
      few_rows = (reached_rows s r).1;
      once = sound.once;
      fit = λ i. fit_rows s.heights s.stacks i sound.stacks_fit;
      few_ordered = reached_ordered s r;
    }

-- what is so of each rank of a list is so of what stands in it
pub few_held : (xs : List ℕ) (x : ℕ) → All (λ rank. rank ≤ 96) xs → holds x xs ≡ true → x ≤ 96
few_held [] x all h = cc
few_held (y ∷ ys) x all h = ⊎_elim
    (λ t. let a = all 0 0 (omega arith) in let e : y ≡ x = eqb-true y x t in omega arith)
    (λ t. few_held ys x (λ k d lt. all (suc k) d (omega arith)) t)
    (or_cases (y == x) (holds x ys) h)

-- how it begins
pub ahead_begins : (s : Position) (left : List ℕ) (most next : ℕ) → IsReached s → ((r : ℕ) → get_or left r 0 ≡ length (get_or s.stacks r [])) → most ≡ greatest (offers s.ordered s.heights s.stacks) →
    length left ≡ 16 → next ≡ s.next → Ahead s.ordered s.next s.heights s.stacks next left most 0
ahead_begins s left most next r all is long e =
    let sound = reached_sound s r in
    let same : cut left s.stacks ≡ s.stacks = cut_all left s.stacks all in
    record {
      gone = λ d lt. ap (occurrences d) same ∙ sound.gone d (omega arith);
      within = λ i. omega (arith, all i);
      greatest_is = is ∙ ap (λ l. greatest (offers s.ordered s.heights l)) (sym same);
      tallied = ap (λ l. 0 + stuck_from s.ordered s.heights (suc s.ordered - next) l next) same ∙ (let z : 0 + stuck_from s.ordered s.heights (suc s.ordered - next) s.stacks next ≡ stuck_from s.ordered s.heights (suc s.ordered - next) s.stacks next = omega arith in z)
          ∙ ap (λ n. stuck_from s.ordered s.heights (suc s.ordered - n) s.stacks n) e;
      few = omega arith;
      left_long = long;
    }

-- the stack of a rank that waits, as it is read
pub record Reads (s : Position) (k row : ℕ) (stack left : List ℕ) : Type 0 where
  pub index : row ≡ place k s.stacks
  pub there : row < length s.heights
  pub stack_is : get_or s.stacks row [] ≡ stack
  pub within : get_or left row 0 ≤ length stack

pub reads : (s : Position) (k row : ℕ) (stack left : List ℕ) → IsReached s → row ≡ place k s.stacks → row < length s.heights → slice_get s.stacks row ≡ Some stack → ((r : ℕ) → get_or left r 0 ≤ length (get_or s.stacks r [])) → Reads s k row stack left
reads s k row stack left r is there here within =
    let e : get_or s.stacks row [] ≡ stack = get_or_from_slice_get s.stacks row stack [] here in
    record { index = omega arith; there = omega arith; stack_is = e; within = omega (arith, within row, ap length e) }

pub part_few : (n : ℕ) (stack : List ℕ) → All (λ rank. rank ≤ 96) stack → All (λ rank. rank ≤ 96) (take n stack)
part_few n stack few k d lt =
    let e : get_or (take n stack) k d ≡ get_or stack k d = get_or-take n stack k d (omega (arith, length-take n stack)) in
    omega (arith, e, few k d (omega (arith, length-take n stack)))

-- the least of what is left is the rank exactly where it is left
pub held_test : (s : Position) (k row : ℕ) (stack left : List ℕ) (most again : ℕ) → IsReached s → Reads s k row stack left → Ahead s.ordered s.next s.heights s.stacks k left most again → k ≤ s.ordered →
    (least_ordered s.ordered (take (get_or left row 0) stack) ≡ k → holds k (take (get_or left row 0) stack) ≡ true)
    × (least_ordered s.ordered (take (get_or left row 0) stack) ≢ k → holds k (take (get_or left row 0) stack) ≡ false)
held_test s k row stack left most again r w a le =
    let few = reached_ordered s r in
    let part : List ℕ = take (get_or left row 0) stack in
    let here : get_or (cut left s.stacks) row [] ≡ part = cut_at left s.stacks row ∙ ap (take (get_or left row 0)) w.stack_is in
    let gone : (d : ℕ) → d < k → times d part ≡ 0 = λ d lt. ⊎_elim
    (λ t. let q = held_in d (cut left s.stacks) row (ap (holds d) here ∙ t) in omega (arith, q, a.gone d lt, ap (times d) here))
    (λ f. times_not_held d part f)
    (cases_Bool (holds d part)) in (
      λ e. least_held s.ordered part k e (omega arith),
      λ ne. ⊎_elim (λ t. absurd (ne (least_is s.ordered k part le few gone t))) (λ f. f) (cases_Bool (holds k part)),
    )

-- what one row offers
pub offers_at : (ordered : ℕ) (heights : List ℕ) (stacks : List (List ℕ)) (r height : ℕ) (stack : List ℕ) → slice_get heights r ≡ Some height → slice_get stacks r ≡ Some stack → get_or (offers ordered heights stacks) r 0 ≡ offer ordered height stack
offers_at ordered [] stacks r height stack e f = cc
offers_at ordered (h ∷ hs) [] r height stack e f = cc
offers_at ordered (h ∷ hs) (x ∷ xs) zero height stack e f = ap (λ n. offer ordered n x) (same_Some h height e) ∙ ap (offer ordered height) (same_Some x stack f)
offers_at ordered (h ∷ hs) (x ∷ xs) (suc r) height stack e f = offers_at ordered hs xs r height stack e f

-- one row more is written
pub one_more : (xs : List ℕ) (f : ℕ → ℕ) (row x : ℕ) → 1 ≤ row → row - 1 < length xs → ((r : ℕ) → r < row - 1 → get_or xs r 0 ≡ f r) → ((r : ℕ) → row - 1 ≤ r → get_or xs r 0 ≡ 0) → f (row - 1) ≡ x →
    ((r : ℕ) → r < row + 1 - 1 → get_or (set xs (row - 1) x) r 0 ≡ f r) × ((r : ℕ) → row + 1 - 1 ≤ r → get_or (set xs (row - 1) x) r 0 ≡ 0)
one_more xs f row x lo lt done rest is = (
  λ r less. ⊎_elim
      (λ below. let ne : r ≢ row - 1 = λ q. absurd (omega arith) in get_or-set_other xs (row - 1) r x 0 ne ∙ done r below)
      (λ at. let q : r ≡ row - 1 = omega arith in ap (λ j. get_or (set xs (row - 1) x) j 0) q ∙ get_or-set_same xs (row - 1) x 0 lt ∙ sym is ∙ ap f (sym q))
      (cases_lt r (row - 1)),
  λ r ge. let ne : r ≢ row - 1 = λ q. absurd (omega arith) in get_or-set_other xs (row - 1) r x 0 ne ∙ rest r (omega arith),
)

-- what is the greatest from a row on
pub greatest_drop : (xs : List ℕ) (i : ℕ) → i < length xs → greatest (drop i xs) ≡ max (get_or xs i 0) (greatest (drop (suc i) xs))
greatest_drop xs i lt = ap greatest (drop-cons xs i 0 lt)

-- no row offers more than 255
greatest_small : (ordered : ℕ) (heights : List ℕ) (stacks : List (List ℕ)) → greatest (offers ordered heights stacks) ≤ 255
greatest_small ordered [] stacks = omega arith
greatest_small ordered (h ∷ hs) [] = omega arith
greatest_small ordered (h ∷ hs) (x ∷ xs) = omega (arith, greatest_small ordered hs xs, offer_low ordered (h ∷ hs) (x ∷ xs) 0, least_small ordered x)

-- a row that offers as much offers the most
offers_all : (ordered : ℕ) (heights : List ℕ) (stacks : List (List ℕ)) (r : ℕ) → get_or (offers ordered heights stacks) r 0 ≡ 255 → greatest (offers ordered heights stacks) ≡ 255
offers_all ordered [] stacks r e = absurd (omega arith)
offers_all ordered (h ∷ hs) [] r e = absurd (omega arith)
offers_all ordered (h ∷ hs) (x ∷ xs) zero e = omega (arith, greatest_small ordered (h ∷ hs) (x ∷ xs))
offers_all ordered (h ∷ hs) (x ∷ xs) (suc r) e = omega (arith, offers_all ordered hs xs r e, greatest_small ordered (h ∷ hs) (x ∷ xs))

-- an empty row does
pub open_row : (s : Position) (r height : ℕ) (stack : List ℕ) → IsReached s → slice_get s.heights r ≡ Some height → slice_get s.stacks r ≡ Some stack → length stack ≡ 0 → greatest (offers s.ordered s.heights s.stacks) ≡ 255
open_row s r height [] reached e f none =
    let some = (reached_low s reached r 0 (slice_get_within s.heights r height e)).0 in
    let high = get_or_from_slice_get s.heights r height 0 e in
    offers_all s.ordered s.heights s.stacks r (offers_at s.ordered s.heights s.stacks r height [] e f ∙ (rw (lt-leb height 0 (omega arith)) refl))
open_row s r height (x ∷ stack) reached e f none = absurd (omega arith)

-- where a row is open nothing would block again
pub open_now : (s : Position) → IsReached s → greatest (offers s.ordered s.heights s.stacks) ≡ 255 → stuck_now s ≡ 0
open_now s r e = let next = (reached_next s r).1 in open_ends s.ordered s.heights (suc s.ordered - s.next) s.stacks s.next (omega arith) (reached_ordered s r) (open_found s.ordered s.heights s.stacks e)

-- what is found of a rank that is left, from its stack as it is read
pub met_here : (s : Position) (k row : ℕ) (stack left : List ℕ) (most kept more offered : ℕ) → Reads s k row stack left → All (λ rank. rank ≤ 96) stack → holds k (take (get_or left row 0) stack) ≡ true →
    take kept (take (get_or left row 0) stack) ≡ below k (take (get_or left row 0) stack) → kept < length (take (get_or left row 0) stack) → more ≡ count_by (nat_lt most) (above k (take (get_or left row 0) stack)) → more ≤ 8 →
    offered ≡ least_ordered s.ordered (take kept (take (get_or left row 0) stack)) → Met s.ordered s.heights s.stacks k left most row kept more offered
met_here s k row stack left most kept more offered r ranks held cut lower counts few is =
    let here : take (get_or left row 0) stack ≡ take (get_or left row 0) (get_or s.stacks row []) = ap (take (get_or left row 0)) (sym r.stack_is) in
    record {
      is_row = r.index;
      row_there = r.there;
      ranks = λ x h. few_held stack x ranks (ap (holds x) (sym r.stack_is) ∙ h);
      held = ap (holds k) (sym here) ∙ held;
      below_it = subst (λ l. take kept l ≡ below k l) here cut;
      lower = subst (λ l. kept < length l) here lower;
      counts = counts ∙ ap (λ l. count_by (nat_lt most) (above k l)) here;
      few = few;
      offer_is = is ∙ ap (λ l. least_ordered s.ordered (take kept l)) here;
    }
