-- How many containers can still count in the look-ahead: those that block, each once.
use Rattle.std.proofs.Common.{◌≡◌, ℕ, zero, suc, ◌+◌, ◌-◌, ◌<◌, ◌≤◌, max, Bool, true, false, ◌==◌, List, [], ◌∷◌, ◌++◌, All, length, map, take, get_or, set, sum_by, count_by, nat_lt, refl, sym, ap, ◌∙◌, subst, ⊎_elim, arith, length-append, append_assoc, append-nil}
use Rattle.std.proofs.lemmas.Bool.{cases_Bool, cases_lt, or_left, or_right, eq-eqb}
use Rattle.std.proofs.lemmas.List.{length-take-le}
use Rattle.std.proofs.lemmas.List.Sums.{sum_by-cons, count_by-le-length, get_or-le-sum_by}
use Rattle.crp_plan.specs.Rows.{holds, occurrences, above, below}
use Rattle.crp_plan.specs.Bay.{Position}
use Rattle.crp_plan.proofs.Lists.{times, one_if, times_not_held, occurrences-cons}
use Rattle.crp_plan.proofs.Buried.{above_absent, below_absent, depth, depth-cons}
use Rattle.crp_bay.specs.Positions.{place}
use Rattle.crp_bay.specs.Reached.{IsReached}
use Rattle.crp_bay.proofs.Reaching.{reached_sound}
use Rattle.crp_bounds.specs.Bounds.{holds_lower, blocked_in, blocking, has_no_place, stuck_from, stuck_now}
use Rattle.crp_bounds.specs.Leasts.{least_ordered}
use Rattle.crp_bounds.specs.Offers.{cut, offers, greatest}
use Rattle.crp_bounds.proofs.Leasts.{few_blocked}
use Rattle.crp_bounds.proofs.Scanned.{bay_of, ahead_begins, Reads, held_test, met_here}
use Rattle.crp_bounds.proofs.Blocked.{lower_from_held}
use Rattle.crp_bounds.proofs.Stuck.{any_prefix, counted, counted-cons}
use Rattle.crp_bounds.proofs.Cutting.{occurrences_cut, cut_at, cut_all, splits_at, above_greater, gone_below, gone_own}
use Rattle.crp_bounds.proofs.Tallying.{Ahead, Bay, Met, length_cut, ahead_absent, ahead_met, met_cut}

-- how many block in all stacks
abbrev pub blocked : ℕ → List (List ℕ) → ℕ
blocked ordered stacks = sum_by (λ stack. blocked_in ordered [] stack) stacks

blocked-cons : (ordered : ℕ) (x : List ℕ) (xs : List (List ℕ)) → blocked ordered (x ∷ xs) ≡ blocked_in ordered [] x + blocked ordered xs
blocked-cons ordered x xs = sum_by-cons (λ stack. blocked_in ordered [] stack) x xs

-- what is blocked in two lists, one on the other
blocked-append : (ordered : ℕ) (under xs ys : List ℕ) → blocked_in ordered under (xs ++ ys) ≡ blocked_in ordered under xs + blocked_in ordered (under ++ xs) ys
blocked-append ordered under [] ys = omega (arith, ap (λ l. blocked_in ordered l ys) (append-nil under))
blocked-append ordered under (x ∷ xs) ys =
    omega (arith, blocked-append ordered (under ++ x ∷ []) xs ys, ap (λ l. blocked_in ordered l ys) (append_assoc under (x ∷ []) xs))

-- above an ordered rank all greater ones block
all_blocked : (ordered k : ℕ) (under ys : List ℕ) → k ≤ ordered → holds k under ≡ true → ((c : ℕ) → holds c ys ≡ true → k < c) → blocked_in ordered under ys ≡ length ys
all_blocked ordered k under [] le held greater = omega arith
all_blocked ordered k under (y ∷ ys) le held greater =
    let low : holds_lower ordered y under ≡ true = lower_from_held ordered k y under le (greater y (or_left (y == y) (holds y ys) (eq-eqb y y refl))) held in
    let rest = all_blocked ordered k (under ++ y ∷ []) ys le (any_prefix (λ z. z == k) under (under ++ y ∷ []) (y ∷ [], refl) held) (λ c h. greater c (or_right (y == c) (holds c ys) h)) in
    omega (arith, ap one_if low, rest)

held_last : (k : ℕ) (xs : List ℕ) → holds k (xs ++ k ∷ []) ≡ true
held_last k [] = or_left (k == k) false (eq-eqb k k refl)
held_last k (x ∷ xs) = or_right (x == k) (holds k (xs ++ k ∷ [])) (held_last k xs)

-- what stands above the least rank of a stack blocks, and is gone once the stack is cut off there
above_blocks : (ordered k : ℕ) (xs : List ℕ) → k ≤ ordered → times k xs ≤ 1 → ((d : ℕ) → d < k → times d xs ≡ 0) → length (above k xs) + blocked_in ordered [] (below k xs) ≤ blocked_in ordered [] xs
above_blocks ordered k xs le once gone = ⊎_elim
    (λ held.
    let split : xs ≡ below k xs ++ k ∷ above k xs = splits_at k xs held in
    let own : holds k (below k xs ++ k ∷ []) ≡ true = held_last k (below k xs) in
    let upper : blocked_in ordered (below k xs ++ k ∷ []) (above k xs) ≡ length (above k xs) =
    all_blocked ordered k (below k xs ++ k ∷ []) (above k xs) le own (λ c h. above_greater k c xs held once gone h) in
    omega (arith, ap (blocked_in ordered []) split, blocked-append ordered [] (below k xs) (k ∷ above k xs), upper))
    (λ free. let none = times_not_held k xs free in
    omega (arith, ap length (above_absent k xs none), ap (blocked_in ordered []) (below_absent k xs none)))
    (cases_Bool (holds k xs))

-- the same of all stacks
cut_blocks : (ordered k : ℕ) (stacks : List (List ℕ)) → k ≤ ordered → occurrences k stacks ≤ 1 → ((d : ℕ) → d < k → occurrences d stacks ≡ 0) → depth k stacks + blocked ordered (map (below k) stacks) ≤ blocked ordered stacks
cut_blocks ordered k [] le once gone = omega arith
cut_blocks ordered k (x ∷ xs) le once gone =
    omega (
      arith,
      depth-cons k x xs,
      blocked-cons ordered x xs,
      blocked-cons ordered (below k x) (map (below k) xs),
      above_blocks ordered k x le (omega (arith, occurrences-cons k x xs)) (λ d lt. omega (arith, gone d lt, occurrences-cons d x xs)),
      cut_blocks ordered k xs le (omega (arith, occurrences-cons k x xs)) (λ d lt. omega (arith, gone d lt, occurrences-cons d x xs)),
    )

-- no more count above a rank than stand there
counted_few : (p : ℕ → Bool) (k : ℕ) (xs : List (List ℕ)) → counted p k xs ≤ depth k xs
counted_few p k [] = omega arith
counted_few p k (x ∷ xs) = omega (arith, counted-cons p k x xs, depth-cons k x xs, count_by-le-length p (above k x), counted_few p k xs)

-- each container counts at most once, and only one that blocks: where the lower ranks are gone, no more count than block
stuck_few : (ordered : ℕ) (heights : List ℕ) (more : ℕ) (stacks : List (List ℕ)) (k : ℕ) → k + more ≤ suc ordered → ((d : ℕ) → occurrences d stacks ≤ 1) → ((d : ℕ) → d < k → occurrences d stacks ≡ 0) →
    stuck_from ordered heights more stacks k ≤ blocked ordered stacks
stuck_few ordered heights zero stacks k le once gone = omega arith
stuck_few ordered heights (suc more) stacks k le once gone =
    let gone' : (d : ℕ) → d < suc k → occurrences d (map (below k) stacks) ≡ 0 = λ d lt. ⊎_elim
    (λ less. omega (arith, gone_below d k stacks, gone d less))
    (λ ge. let e : d ≡ k = omega arith in ap (λ x. occurrences x (map (below k) stacks)) e ∙ gone_own k stacks)
    (cases_lt d k) in
    omega (
      arith,
      counted_few (has_no_place ordered k heights stacks) k stacks,
      cut_blocks ordered k stacks (omega arith) (once k) gone,
      stuck_few ordered heights more (map (below k) stacks) (suc k) (omega arith) (λ d. omega (arith, gone_below d k stacks, once d)) gone',
    )

-- how far the count has come, and how many at most still block
pub record Remains (ordered next : ℕ) (heights : List ℕ) (stacks : List (List ℕ)) (k : ℕ) (left : List ℕ) (most again still : ℕ) : Type 0 where
  pub ahead : Ahead ordered next heights stacks k left most again
  pub blocks : blocked ordered (cut left stacks) ≤ still
  pub few : still ≤ 96

-- no more will have counted
pub remains_most : (ordered next : ℕ) (heights : List ℕ) (stacks : List (List ℕ)) (k : ℕ) (left : List ℕ) (most again still : ℕ) → Remains ordered next heights stacks k left most again still → Bay ordered heights stacks → k ≤ suc ordered →
    stuck_from ordered heights (suc ordered - next) stacks next ≤ again + still
remains_most ordered next heights stacks k left most again still r b le =
    let blocks = r.blocks in
    let a = r.ahead in
    omega (arith, a.tallied, stuck_few ordered heights (suc ordered - k) (cut left stacks) k (omega arith) (λ d. omega (arith, occurrences_cut d left stacks, b.once d)) a.gone)

-- what a rank that is met takes off those that block
pub met_blocks : (ordered next : ℕ) (heights : List ℕ) (stacks : List (List ℕ)) (k : ℕ) (left : List ℕ) (most again still r kept more offered : ℕ) → Remains ordered next heights stacks k left most again still → Bay ordered heights stacks → k ≤ ordered →
    Met ordered heights stacks k left most r kept more offered →
    length (take (get_or left r 0) (get_or stacks r [])) - 1 - kept + blocked ordered (cut (set left r kept) stacks) ≤ still
met_blocks ordered next heights stacks k left most again still r kept more offered m b le t =
    let w : List ℕ = take (get_or left r 0) (get_or stacks r []) in
    let W : List (List ℕ) = cut left stacks in
    let a = m.ahead in let blocks = m.blocks in let lower = t.lower in
    let row_there = t.row_there in let same_rows = b.same_rows in
    let there : r < length W = omega (arith, length_cut left stacks) in
    let split : w ≡ take kept w ++ k ∷ above k w = splits_at k w t.held ∙ ap (λ l. l ++ k ∷ above k w) (sym t.below_it) in
    let sizes : length w ≡ kept + suc (length (above k w)) = omega (arith, ap length split, length-append (take kept w) (k ∷ above k w), length-take-le kept w (omega arith)) in
    omega (
      arith,
      sizes,
      ap (λ l. length (above k l)) (cut_at left stacks r),
      get_or-le-sum_by (λ stack. length (above k stack)) W r [] there,
      cut_blocks ordered k W le (omega (arith, occurrences_cut k left stacks, b.once k)) a.gone,
      ap (blocked ordered) (met_cut ordered next heights stacks k left most again r kept more offered a b t),
    )

-- a rank that is left
pub remains_met : (ordered next : ℕ) (heights : List ℕ) (stacks : List (List ℕ)) (k : ℕ) (left : List ℕ) (most again still r kept more offered : ℕ) → Remains ordered next heights stacks k left most again still → Bay ordered heights stacks → k ≤ ordered →
    Met ordered heights stacks k left most r kept more offered →
    Remains ordered next heights stacks (k + 1) (set left r kept) (max most offered) (again + more) (still - (length (take (get_or left r 0) (get_or stacks r [])) - 1 - kept))
remains_met ordered next heights stacks k left most again still r kept more offered m b le t =
    let few = m.few in
    record {
      ahead = ahead_met ordered next heights stacks k left most again r kept more offered m.ahead b le t;
      blocks = omega (arith, met_blocks ordered next heights stacks k left most again still r kept more offered m b le t);
      few = omega arith;
    }

-- a rank that is cut off already
pub remains_absent : (ordered next : ℕ) (heights : List ℕ) (stacks : List (List ℕ)) (k : ℕ) (left : List ℕ) (most again still : ℕ) → Remains ordered next heights stacks k left most again still → occurrences k stacks ≤ 1 → k ≤ ordered →
    holds k (take (get_or left (place k stacks) 0) (get_or stacks (place k stacks) [])) ≡ false → Remains ordered next heights stacks (k + 1) left most again still
remains_absent ordered next heights stacks k left most again still m once le free = record {
  ahead = ahead_absent ordered next heights stacks k left most again m.ahead once le free;
  blocks = m.blocks;
  few = m.few;
}

-- a rank that is left, as its stack is read, of which so many are kept
pub record Turned (s : Position) (k row : ℕ) (stack left : List ℕ) (most again still kept more : ℕ) : Type 0 where
  pub within : length (take (get_or left row 0) stack) - 1 - kept ≤ still
  pub counted_most : again + more ≤ stuck_now s
  pub remains : Remains s.ordered s.next s.heights s.stacks (k + 1) (set left row kept) (max most (least_ordered s.ordered (take kept (take (get_or left row 0) stack)))) (again + more) (still - (length (take (get_or left row 0) stack) - 1 - kept))

pub turned : (s : Position) (k row : ℕ) (stack left : List ℕ) (most again still kept more : ℕ) → Remains s.ordered s.next s.heights s.stacks k left most again still → IsReached s → k ≤ s.ordered → Reads s k row stack left →
    All (λ rank. rank ≤ 96) stack → least_ordered s.ordered (take (get_or left row 0) stack) ≡ k → take kept (take (get_or left row 0) stack) ≡ below k (take (get_or left row 0) stack) → kept < length (take (get_or left row 0) stack) →
    more ≡ count_by (nat_lt most) (above k (take (get_or left row 0) stack)) → more ≤ 8 → Turned s k row stack left most again still kept more
turned s k row stack left most again still kept more m reached le r ranks least_is cut lower counts few =
    let offered : ℕ = least_ordered s.ordered (take kept (take (get_or left row 0) stack)) in
    let t : Met s.ordered s.heights s.stacks k left most row kept more offered =
    met_here s k row stack left most kept more offered r ranks ((held_test s k row stack left most again reached r m.ahead le).0 least_is) cut lower counts few refl in
    let here : length (take (get_or left row 0) stack) ≡ length (take (get_or left row 0) (get_or s.stacks row [])) = ap (λ l. length (take (get_or left row 0) l)) (sym r.stack_is) in
    let next = remains_met s.ordered s.next s.heights s.stacks k left most again still row kept more offered m (bay_of s reached) le t in
    let next_ahead = next.ahead in
    record {
      within = omega (arith, met_blocks s.ordered s.next s.heights s.stacks k left most again still row kept more offered m (bay_of s reached) le t, here);
      counted_most = omega (arith, next_ahead.tallied);
      remains = subst (λ n. Remains s.ordered s.next s.heights s.stacks (k + 1) (set left row kept) (max most offered) (again + more) (still - (n - 1 - kept))) (sym here) next;
    }

-- how it begins
pub remains_begins : (s : Position) (left : List ℕ) (most next still : ℕ) → IsReached s → ((r : ℕ) → get_or left r 0 ≡ length (get_or s.stacks r [])) → most ≡ greatest (offers s.ordered s.heights s.stacks) →
    length left ≡ 16 → next ≡ s.next → still ≡ blocking s → Remains s.ordered s.next s.heights s.stacks next left most 0 still
remains_begins s left most next still r all offered long e is = record {
  ahead = ahead_begins s left most next r all offered long e;
  blocks = omega (arith, ap (blocked s.ordered) (cut_all left s.stacks all), is);
  few = omega (arith, is, few_blocked s r);
}

-- no more count than block
pub stuck_most : (s : Position) → IsReached s → stuck_now s ≤ blocking s
stuck_most s r =
    let sound = reached_sound s r in
    ⊎_elim
    (λ lt. let none : suc s.ordered - s.next ≡ 0 = omega arith in omega (arith, ap (λ n. stuck_from s.ordered s.heights n s.stacks s.next) none))
    (λ ge. stuck_few s.ordered s.heights (suc s.ordered - s.next) s.stacks s.next (omega arith) sound.once sound.gone)
    (cases_lt (suc s.ordered) s.next)
