-- What the count of the look-ahead bound reads of a thinned position.
use Rattle.std.proofs.Common.{◌≡◌, ◌≢◌, ℕ, zero, suc, ◌+◌, ◌-◌, ◌<◌, ◌≤◌, true, false, ◌==◌, max, List, [], ◌∷◌, length, take, get_or, set, Some, slice_get, count_by, nat_le, nat_lt, IsTrue, refl, sym, ap, ◌∙◌, subst, ⊎_elim, arith}
use Rattle.std.proofs.lemmas.Bool.{cases_Bool, cases_eq, cases_lt, or_cases, or_left, or_right, le-leb, leb-true, both_ways, false_from_ne_true}
use Rattle.std.proofs.lemmas.List.{get_or-set_same, get_or-set_other, take_all, take-take}
use Rattle.std.proofs.lemmas.Option.{slice_get-get_or}
use Rattle.crp_plan.specs.Rows.{holds, occurrences, above, below, FitRows}
use Rattle.crp_plan.specs.Bay.{Position}
use Rattle.crp_plan.proofs.Lists.{times, times_not_held, times_held, at_le_sum}
use Rattle.crp_plan.proofs.Steps.{same_rows}
use Rattle.crp_bay.specs.Positions.{place}
use Rattle.crp_bay.specs.Located.{AreRowsOf}
use Rattle.crp_bay.proofs.Walked.{is_place}
use Rattle.crp_bounds.specs.Bounds.{blocking, stuck_from, stuck_now}
use Rattle.crp_bounds.specs.Leasts.{least_ordered}
use Rattle.crp_bounds.specs.Offers.{cut, offers, greatest}
use Rattle.crp_bounds.proofs.Cutting.{cut_all, least_is, least_held, held_in, cut_at}
use Rattle.crp_bounds.proofs.Tallying.{Ahead, Bay, Met}
use Rattle.crp_bounds.proofs.Scanned.{beyond}
use Rattle.crp_bounds.proofs.Remaining.{Remains, blocked, met_blocks, remains_met, remains_most}
use Rattle.crp_thinning.specs.Steps.{IsFine}

-- the test that code makes
pub says_no : (need n : ℕ) → n < need → (IsTrue false → need ≤ n) × (need ≤ n → IsTrue false)
says_no need n lt = (λ t. cc, λ h. absurd (omega arith))

pub says_yes : (need n : ℕ) → need ≤ n → (IsTrue true → need ≤ n) × (need ≤ n → IsTrue true)
says_yes need n le = (λ t. le, λ h. refl)

pub says_test : (need n m : ℕ) → n ≡ m → (IsTrue (nat_le need n) → need ≤ m) × (need ≤ m → IsTrue (nat_le need n))
says_test need n m e = (λ t. let le = leb-true need n t in omega arith, λ h. le-leb need n (omega arith))

-- each stack fits its row
fit_rows : (heights : List ℕ) (stacks : List (List ℕ)) (r : ℕ) → FitRows heights stacks → length (get_or stacks r []) ≤ get_or heights r 0
fit_rows [] [] r fit = omega arith
fit_rows [] (x ∷ xs) r fit = absurd fit
fit_rows (h ∷ hs) [] r fit = absurd fit
fit_rows (h ∷ hs) (x ∷ xs) zero fit = fit.0
fit_rows (h ∷ hs) (x ∷ xs) (suc r) fit = fit_rows hs xs r fit.1

pub bay_thin : (count : ℕ) (s : Position) → IsFine count s → Bay s.ordered s.heights s.stacks
bay_thin count s f = record {
  same_rows = sym (same_rows s.heights s.stacks f.stacks_fit);
  few_rows = f.few_rows;
  once = f.once;
  fit = λ i. fit_rows s.heights s.stacks i f.stacks_fit;
  few_ordered = f.few_ordered;
}

-- how it begins
pub begins_thin : (count : ℕ) (s : Position) (left : List ℕ) (most next still : ℕ) → IsFine count s → ((r : ℕ) → get_or left r 0 ≡ length (get_or s.stacks r [])) → most ≡ greatest (offers s.ordered s.heights s.stacks) →
    length left ≡ 16 → next ≡ s.next → still ≡ blocking s → still ≤ 96 → Remains s.ordered s.next s.heights s.stacks next left most 0 still
begins_thin count s left most next still f all is long e blocks few =
    let same : cut left s.stacks ≡ s.stacks = cut_all left s.stacks all in
    record {
      ahead = record {
        gone = λ d lt. ap (occurrences d) same ∙ f.gone d (omega arith);
        within = λ i. omega (arith, all i);
        greatest_is = is ∙ ap (λ l. greatest (offers s.ordered s.heights l)) (sym same);
        tallied = ap (λ l. 0 + stuck_from s.ordered s.heights (suc s.ordered - next) l next) same ∙ (let z : 0 + stuck_from s.ordered s.heights (suc s.ordered - next) s.stacks next ≡ stuck_from s.ordered s.heights (suc s.ordered - next) s.stacks next = omega arith in z)
            ∙ ap (λ n. stuck_from s.ordered s.heights (suc s.ordered - n) s.stacks n) e;
        few = omega arith;
        left_long = long;
      };
      blocks = omega (arith, ap (blocked s.ordered) same, blocks);
      few = few;
    }

-- how many containers stand in each of so many rows
filled : ℕ → List (List ℕ) → List ℕ
filled zero xs = []
filled (suc n) [] = 0 ∷ filled n []
filled (suc n) (x ∷ xs) = length x ∷ filled n xs

filled_long : (n : ℕ) (xs : List (List ℕ)) → length (filled n xs) ≡ n
unfolding filled
filled_long zero xs = refl
filled_long (suc n) [] = ap suc (filled_long n [])
filled_long (suc n) (x ∷ xs) = ap suc (filled_long n xs)

filled_at : (n : ℕ) (xs : List (List ℕ)) (r : ℕ) → length xs ≤ n → get_or (filled n xs) r 0 ≡ length (get_or xs r [])
unfolding filled
filled_at zero [] r le = refl
filled_at zero (x ∷ xs) r le = absurd (omega arith)
filled_at (suc n) [] zero le = refl
filled_at (suc n) [] (suc r) le = filled_at n [] r (omega arith)
filled_at (suc n) (x ∷ xs) zero le = refl
filled_at (suc n) (x ∷ xs) (suc r) le = filled_at n xs r (omega arith)

-- no more count than block
pub most_thin : (count : ℕ) (s : Position) → IsFine count s → blocking s ≤ 96 → stuck_now s ≤ blocking s
most_thin count s f few =
    let within = f.within in let rows = f.few_rows in
    let short : length s.stacks ≤ 16 = omega (arith, same_rows s.heights s.stacks f.stacks_fit) in
    let r = begins_thin count s (filled 16 s.stacks) (greatest (offers s.ordered s.heights s.stacks)) s.next (blocking s) f (λ i. filled_at 16 s.stacks i short) refl (filled_long 16 s.stacks) refl refl few in
    omega (arith, remains_most s.ordered s.next s.heights s.stacks s.next (filled 16 s.stacks) (greatest (offers s.ordered s.heights s.stacks)) 0 (blocking s) r (bay_thin count s f) (omega arith))

-- what is left of a row
abbrev pub part : List ℕ → ℕ → List ℕ → List ℕ
part left i stack = take (get_or left i 0) stack

-- of each row the least ordered rank of what is left is known
abbrev pub AreLeasts : ℕ → List (List ℕ) → List ℕ → List ℕ → Type 0
AreLeasts ordered stacks left leasts = (r : ℕ) → r < length stacks → get_or leasts r 0 ≡ least_ordered ordered (part left r (get_or stacks r []))

-- where all is left
pub leasts_begin : (ordered : ℕ) (stacks : List (List ℕ)) (left leasts : List ℕ) → ((r : ℕ) → get_or left r 0 ≡ length (get_or stacks r [])) →
    ((r : ℕ) → r < length stacks → get_or leasts r 0 ≡ least_ordered ordered (get_or stacks r [])) → AreLeasts ordered stacks left leasts
leasts_begin ordered stacks left leasts all are r lt = are r lt ∙ ap (least_ordered ordered) (sym (take_all (get_or left r 0) (get_or stacks r []) (omega (arith, all r))))

take_few : (n : ℕ) (xs : List ℕ) → length (take n xs) ≤ n
take_few zero xs = omega arith
take_few (suc n) [] = omega arith
take_few (suc n) (x ∷ xs) = omega (arith, take_few n xs)

-- where one row is cut
pub leasts_cut : (ordered : ℕ) (stacks : List (List ℕ)) (left leasts stack : List ℕ) (i kept least : ℕ) → AreLeasts ordered stacks left leasts → i < length left → i < length leasts → get_or stacks i [] ≡ stack →
    kept < length (part left i stack) → least ≡ least_ordered ordered (take kept (part left i stack)) → AreLeasts ordered stacks (set left i kept) (set leasts i least)
leasts_cut ordered stacks left leasts stack i kept least are low low' here lower is r lt = ⊎_elim
    (λ same.
    let less : kept ≤ get_or left i 0 = omega (arith, lower, take_few (get_or left i 0) stack) in
    let new : get_or (set leasts i least) r 0 ≡ least = ap (λ x. get_or (set leasts i least) x 0) same ∙ get_or-set_same leasts i least 0 low' in
    let cut : get_or (set left i kept) r 0 ≡ kept = ap (λ x. get_or (set left i kept) x 0) same ∙ get_or-set_same left i kept 0 low in
    let there : get_or stacks r [] ≡ stack = ap (λ x. get_or stacks x []) same ∙ here in
    new ∙ is ∙ ap (least_ordered ordered) (take-take kept (get_or left i 0) stack less) ∙ sym (ap (λ n. least_ordered ordered (take n stack)) cut) ∙ sym (ap (λ st. least_ordered ordered (part (set left i kept) r st)) there))
    (λ other. get_or-set_other leasts i r least 0 other ∙ are r lt ∙ ap (λ n. least_ordered ordered (take n (get_or stacks r []))) (sym (get_or-set_other left i r kept 0 other)))
    (cases_eq r i)

pub held_take : (k n : ℕ) (xs : List ℕ) → holds k (take n xs) ≡ true → holds k xs ≡ true
held_take k zero xs h = cc
held_take k (suc n) [] h = h
held_take k (suc n) (x ∷ xs) h = ⊎_elim (λ t. or_left (x == k) (holds k xs) t) (λ t. or_right (x == k) (holds k xs) (held_take k n xs t)) (or_cases (x == k) (holds k (take n xs)) h)

-- the least of what is left is the rank exactly where it is left
pub held_thin : (s : Position) (k i : ℕ) (left stack : List ℕ) (most again : ℕ) → s.ordered ≤ 96 → get_or s.stacks i [] ≡ stack → Ahead s.ordered s.next s.heights s.stacks k left most again → k ≤ s.ordered →
    (least_ordered s.ordered (part left i stack) ≡ k → holds k (part left i stack) ≡ true) × (least_ordered s.ordered (part left i stack) ≢ k → holds k (part left i stack) ≡ false)
held_thin s k i left stack most again few e a le =
    let here : get_or (cut left s.stacks) i [] ≡ part left i stack = cut_at left s.stacks i ∙ ap (part left i) e in
    let gone : (d : ℕ) → d < k → times d (part left i stack) ≡ 0 = λ d lt. ⊎_elim
    (λ t. let q = held_in d (cut left s.stacks) i (ap (holds d) here ∙ t) in omega (arith, q, a.gone d lt, ap (times d) here))
    (λ f. times_not_held d (part left i stack) f)
    (cases_Bool (holds d (part left i stack))) in (
      λ q. least_held s.ordered (part left i stack) k q (omega arith),
      λ ne. ⊎_elim (λ t. absurd (ne (least_is s.ordered k (part left i stack) le few gone t))) (λ f. f) (cases_Bool (holds k (part left i stack))),
    )

-- a rank that is not left in the row that is known of it is left in none
pub absent_thin : (stacks : List (List ℕ)) (rows left : List ℕ) (k i : ℕ) → AreRowsOf (length stacks) stacks rows → get_or rows k 0 ≡ i → holds k (part left i (get_or stacks i [])) ≡ false →
    holds k (part left (place k stacks) (get_or stacks (place k stacks) [])) ≡ false
absent_thin stacks rows left k i are e none =
    let p : ℕ = place k stacks in
    false_from_ne_true (holds k (part left p (get_or stacks p []))) (λ t.
    let held : holds k (get_or stacks p []) ≡ true = held_take k (get_or left p 0) (get_or stacks p []) t in
    ⊎_elim
    (λ lt. let q : i ≡ p = sym e ∙ are k p (get_or stacks p []) lt (slice_get-get_or stacks p [] lt) held in
    both_ways (holds k (part left p (get_or stacks p []))) (ap (λ j. holds k (part left j (get_or stacks j []))) (sym q) ∙ none) t)
    (λ ge. both_ways (holds k (get_or stacks p [])) (ap (holds k) (beyond stacks p [] ge)) held)
    (cases_lt p (length stacks)))

-- a rank that is left, as its stack is read, of which so many are kept
pub record Turned (s : Position) (k i : ℕ) (stack left : List ℕ) (most again still kept more : ℕ) : Type 0 where
  pub within : length (part left i stack) - 1 - kept ≤ still
  pub counted_most : again + more ≤ stuck_now s
  pub remains : Remains s.ordered s.next s.heights s.stacks (k + 1) (set left i kept) (max most (least_ordered s.ordered (take kept (part left i stack)))) (again + more) (still - (length (part left i stack) - 1 - kept))

-- what code finds there
pub record Found (s : Position) (k i : ℕ) (stack left : List ℕ) (most kept more : ℕ) : Type 0 where
  pub least_is : least_ordered s.ordered (part left i stack) ≡ k
  pub below_it : take kept (part left i stack) ≡ below k (part left i stack)
  pub lower : kept < length (part left i stack)
  pub counts : more ≡ count_by (nat_lt most) (above k (part left i stack))
  pub few : more ≤ 8

turned_there : (count : ℕ) (s : Position) (k i : ℕ) (left : List ℕ) (most again still kept more : ℕ) → IsFine count s → Remains s.ordered s.next s.heights s.stacks k left most again still → k ≤ s.ordered → i < length s.stacks →
    Found s k i (get_or s.stacks i []) left most kept more → Turned s k i (get_or s.stacks i []) left most again still kept more
turned_there count s k i left most again still kept more f m le lt w =
    let stack : List ℕ = get_or s.stacks i [] in
    let here : slice_get s.stacks i ≡ Some stack = slice_get-get_or s.stacks i [] lt in
    let offered : ℕ = least_ordered s.ordered (take kept (part left i stack)) in
    let held : holds k (part left i stack) ≡ true = (held_thin s k i left stack most again f.few_ordered refl m.ahead le).0 w.least_is in
    let held' : holds k stack ≡ true = held_take k (get_or left i 0) stack held in
    let b = bay_thin count s f in
    let t : Met s.ordered s.heights s.stacks k left most i kept more offered = record {
      is_row = sym (is_place k s.stacks i stack (f.once k) here (times_held k stack held'));
      row_there = omega (arith, same_rows s.heights s.stacks f.stacks_fit);
      ranks = λ x h. f.ranks x (omega (arith, at_le_sum (times x) s.stacks i stack here, times_held x stack h));
      held = held;
      below_it = w.below_it;
      lower = w.lower;
      counts = w.counts;
      few = w.few;
      offer_is = refl;
    } in
    let next = remains_met s.ordered s.next s.heights s.stacks k left most again still i kept more offered m b le t in
    let next_ahead = next.ahead in
    record {
      within = omega (arith, met_blocks s.ordered s.next s.heights s.stacks k left most again still i kept more offered m b le t);
      counted_most = omega (arith, next_ahead.tallied);
      remains = next;
    }

pub turned_thin : (count : ℕ) (s : Position) (k i : ℕ) (stack left : List ℕ) (most again still kept more : ℕ) → IsFine count s → Remains s.ordered s.next s.heights s.stacks k left most again still → k ≤ s.ordered → i < length s.stacks →
    get_or s.stacks i [] ≡ stack → Found s k i stack left most kept more → Turned s k i stack left most again still kept more
turned_thin count s k i stack left most again still kept more f m le lt e w =
    subst (λ st. Turned s k i st left most again still kept more) e (turned_there count s k i left most again still kept more f m le lt (subst (λ st. Found s k i st left most kept more) (sym e) w))

-- beyond the rows nothing is left
pub part_nil : (k i : ℕ) (left : List ℕ) (stacks : List (List ℕ)) → length stacks ≤ i → holds k (part left i (get_or stacks i [])) ≡ false
part_nil k i left stacks ge =
    false_from_ne_true (holds k (part left i (get_or stacks i []))) (λ t. both_ways (holds k (get_or stacks i [])) (ap (holds k) (beyond stacks i [] ge)) (held_take k (get_or left i 0) (get_or stacks i []) t))
