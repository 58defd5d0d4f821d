-- The least ordered rank of a stack, and how it is known over moves.
use Rattle.std.proofs.Common.{◌≡◌, ◌≢◌, ℕ, zero, suc, ◌+◌, ◌-◌, ◌*◌, ◌<◌, ◌≤◌, min, true, false, ◌||◌, nat_le, nat_lt, if◌then◌else◌, List, [], ◌∷◌, ◌++◌, length, take, get_or, set, Some, slice_get, sum_by, refl, sym, ap, ◌∙◌, subst, ⊎_elim, arith, length-set}
use Rattle.std.proofs.lemmas.Bool.{cases_Bool, cases_eq, cases_lt, ltb-true, ltb-false, lt-ltb, le-ltb}
use Rattle.std.proofs.lemmas.List.{get_or_append_left, get_or_at, get_or-set_same, get_or-set_other, set-set, set-get_or, take-append-le, take_all}
use Rattle.std.proofs.lemmas.Option.{get_or_from_slice_get, same_Some}
use Rattle.std.proofs.lemmas.List.Sums.{sum_by-cons}
use Rattle.crp_plan.specs.Rows.{holds, FitRows}
use Rattle.crp_plan.specs.Bay.{Position, IsSound, IsTaken, IsShifted}
use Rattle.crp_plan.proofs.Lists.{times, one_if, get_put_same, get_put_other, times_held, times_push, same_is_one, at_le_sum}
use Rattle.crp_plan.proofs.Sound.{apart, sound_taken, sound_shifted, length_rest}
use Rattle.crp_plan.proofs.Determined.{same_row, times_top}
use Rattle.crp_bay.specs.Positions.{top, source, stack_at, can_take, taken, settle, can_shift, shifted, child}
use Rattle.crp_bay.specs.Located.{moved}
use Rattle.crp_bay.specs.Reached.{IsReached}
use Rattle.crp_bay.proofs.Walked.{take_made, shift_made}
use Rattle.crp_bay.proofs.Reaching.{reached_sound, reached_settled, reached_low, reached_rows}
use Rattle.crp_bay.proofs.Tops.{top_push}
use Rattle.crp_bay.proofs.Begun.{holds_at}
use Rattle.crp_bounds.specs.Bounds.{holds_lower, blocked_in, blocking}
use Rattle.crp_bounds.specs.Leasts.{least_ordered, KnowsLeasts}
use Rattle.crp_bounds.proofs.Blocked.{blocking_taken, blocking_shifted, one_if-le}

-- one container more on top
pub least_push : (ordered : ℕ) (xs : List ℕ) (x : ℕ) → least_ordered ordered (xs ++ x ∷ []) ≡ (if nat_le x ordered then min x (least_ordered ordered xs) else least_ordered ordered xs)
least_push ordered [] x = refl
least_push ordered (y ∷ xs) x = ⊎_elim
    (λ a. rw a (⊎_elim (λ b. both b (least_push ordered xs x)) (λ b. first b (least_push ordered xs x)) (cases_Bool (nat_le x ordered))))
    (λ a. rw a (least_push ordered xs x))
    (cases_Bool (nat_le y ordered))
  where
    both : nat_le x ordered ≡ true → least_ordered ordered (xs ++ x ∷ []) ≡ (if nat_le x ordered then min x (least_ordered ordered xs) else least_ordered ordered xs) →
        min y (least_ordered ordered (xs ++ x ∷ [])) ≡ (if nat_le x ordered then min x (min y (least_ordered ordered xs)) else min y (least_ordered ordered xs))
    both b ih = let e : least_ordered ordered (xs ++ x ∷ []) ≡ min x (least_ordered ordered xs) = rw b at ih in rw b (omega (arith, e))

    first : nat_le x ordered ≡ false → least_ordered ordered (xs ++ x ∷ []) ≡ (if nat_le x ordered then min x (least_ordered ordered xs) else least_ordered ordered xs) →
        min y (least_ordered ordered (xs ++ x ∷ [])) ≡ (if nat_le x ordered then min x (min y (least_ordered ordered xs)) else min y (least_ordered ordered xs))
    first b ih = let e : least_ordered ordered (xs ++ x ∷ []) ≡ least_ordered ordered xs = rw b at ih in rw b (ap (min y) e)

-- the lesser of two is below where one of them is
lt_min : (a b c : ℕ) → (nat_lt a c || nat_lt b c) ≡ nat_lt (min a b) c
lt_min a b c = ⊎_elim
    (λ t. rw t (sym (lt-ltb (min a b) c (let lt = ltb-true a c t in omega arith))))
    (λ f. rw f (⊎_elim
    (λ t. t ∙ sym (lt-ltb (min a b) c (let lt = ltb-true b c t in omega arith)))
    (λ g. g ∙ sym (le-ltb (min a b) c (let le = ltb-false a c f in let le' = ltb-false b c g in omega arith)))
    (cases_Bool (nat_lt b c))))
    (cases_Bool (nat_lt a c))

-- a lower ordered container stands where the least is lower
pub lower_is_least : (ordered c : ℕ) (xs : List ℕ) → c ≤ 255 → holds_lower ordered c xs ≡ nat_lt (least_ordered ordered xs) c
lower_is_least ordered c [] few = sym (le-ltb 255 c few)
lower_is_least ordered c (y ∷ xs) few =
    let ih : holds_lower ordered c xs ≡ nat_lt (least_ordered ordered xs) c = lower_is_least ordered c xs few in
    ⊎_elim
    (λ a. rw a (ap (λ b. nat_lt y c || b) ih ∙ lt_min y (least_ordered ordered xs) c))
    (λ a. rw a ih)
    (cases_Bool (nat_le y ordered))

-- the least is at most 255
pub least_small : (ordered : ℕ) (xs : List ℕ) → least_ordered ordered xs ≤ 255
least_small ordered [] = omega arith
least_small ordered (y ∷ xs) = let ih = least_small ordered xs in ⊎_elim (λ a. rw a (omega arith)) (λ a. rw a ih) (cases_Bool (nat_le y ordered))

-- a rank that is not the top of a stack where each stands once
pub not_on_top : (s : Position) (r j i : ℕ) (rest stack : List ℕ) (c : ℕ) → IsSound s → slice_get s.stacks r ≡ Some (rest ++ c ∷ []) → slice_get s.stacks j ≡ Some stack → j ≢ r → i < length stack → get_or stack i 0 ≢ c
not_on_top s r j i rest stack c sound here there ne lt e =
    ne (same_row c s.stacks j r stack (rest ++ c ∷ []) (sound.once c) there here (times_held c stack (ap (λ x. holds x stack) (sym e) ∙ holds_at stack i lt)) (times_top c rest))

-- nor does the top stand once more below
pub not_again : (s : Position) (r i : ℕ) (rest : List ℕ) (c : ℕ) → IsSound s → slice_get s.stacks r ≡ Some (rest ++ c ∷ []) → i < length rest → get_or rest i 0 ≢ c
not_again s r i rest c sound here lt e =
    let once = sound.once c in
    let held = times_held c rest (ap (λ x. holds x rest) (sym e) ∙ holds_at rest i lt) in
    absurd (omega (arith, at_le_sum (times c) s.stacks r (rest ++ c ∷ []) here, times_push c rest c, same_is_one c))

-- what is known of a stack is known of what stands below its top
under_known : (leasts : List ℕ) (ordered : ℕ) (rest : List ℕ) (c i : ℕ) → i < length rest → get_or leasts (get_or (rest ++ c ∷ []) i 0) 0 ≡ least_ordered ordered (take (suc i) (rest ++ c ∷ [])) →
    get_or leasts (get_or rest i 0) 0 ≡ least_ordered ordered (take (suc i) rest)
under_known leasts ordered rest c i lt k =
    ap (λ x. get_or leasts x 0) (sym (get_or_append_left rest (c ∷ []) 0 i lt)) ∙ k ∙ ap (least_ordered ordered) (take-append-le (suc i) rest (c ∷ []) (omega arith))

-- a take leaves what is known
pub knows_taken : (leasts : List ℕ) (s : Position) (row : ℕ) (t : Position) → KnowsLeasts leasts s → IsTaken s row t → KnowsLeasts leasts t
knows_taken leasts s row t l k = subst (KnowsLeasts leasts) (sym k.after) (record {
  known = λ r i stack e lt. ⊎_elim
      (λ same. let is : k.rest ≡ stack = same_Some k.rest stack (sym (get_put_same s.stacks (row - 1) (k.rest ++ s.next ∷ []) k.rest k.stack) ∙ ap (slice_get (set s.stacks (row - 1) k.rest)) (sym same) ∙ e) in
      let lt' : i < length k.rest = omega (arith, ap length is) in
      subst (λ st. get_or leasts (get_or st i 0) 0 ≡ least_ordered s.ordered (take (suc i) st)) is
      (under_known leasts s.ordered k.rest s.next i lt' (l.known (row - 1) i (k.rest ++ s.next ∷ []) k.stack (omega (arith, length_rest k.rest s.next)))))
      (λ other. l.known r i stack (sym (get_put_other s.stacks (row - 1) r k.rest other) ∙ e) lt)
      (cases_eq r (row - 1));
  all_ranks = l.all_ranks;
})

-- so do all that are made
pub knows_settle : (leasts : List ℕ) (most : ℕ) (s : Position) → IsSound s → KnowsLeasts leasts s → KnowsLeasts leasts (settle most s)
knows_settle leasts zero s sound l = l
knows_settle leasts (suc most) s sound l = ⊎_elim
    (λ t. let k = take_made s sound t in rw t (knows_settle leasts most (taken s) (sound_taken s (suc (source s)) (taken s) sound k) (knows_taken leasts s (suc (source s)) (taken s) l k)))
    (λ f. rw f l)
    (cases_Bool (can_take s))

-- and they leave the blocking bound
pub blocking_settle : (most : ℕ) (s : Position) → IsSound s → blocking (settle most s) ≡ blocking s
blocking_settle zero s sound = refl
blocking_settle (suc most) s sound = ⊎_elim
    (λ t. let k = take_made s sound t in rw t (blocking_settle most (taken s) (sound_taken s (suc (source s)) (taken s) sound k) ∙ blocking_taken s (suc (source s)) (taken s) sound k))
    (λ f. rw f refl)
    (cases_Bool (can_take s))

-- a shift changes what is known of the container that it moves
pub knows_shifted : (leasts : List ℕ) (s : Position) (from to least : ℕ) (t : Position) → IsSound s → KnowsLeasts leasts s → (k : IsShifted s from to t) → k.moved ≤ 96 → least ≡ least_ordered s.ordered (k.onto ++ k.moved ∷ []) →
    KnowsLeasts (set leasts k.moved least) t
knows_shifted leasts s from to least t sound l k few is = subst (KnowsLeasts (set leasts k.moved least)) (sym k.after) (record {
  known = λ r i stack e lt. ⊎_elim
      (λ q. on_to r i stack e lt q)
      (λ n. ⊎_elim (λ q. on_from r i stack e lt q) (λ n'. other r i stack e lt n n') (cases_eq r (from - 1)))
      (cases_eq r (to - 1));
  all_ranks = length-set leasts k.moved least ∙ l.all_ranks;
})
  where
    c : ℕ
    c = k.moved

    less : List (List ℕ)
    less = set s.stacks (from - 1) k.rest

    more : List (List ℕ)
    more = set less (to - 1) (k.onto ++ k.moved ∷ [])

    ne : to - 1 ≢ from - 1
    ne = apart from to k.from_counts k.to_counts k.another

    onto_less : slice_get (set s.stacks (from - 1) k.rest) (to - 1) ≡ Some k.onto
    onto_less = get_put_other s.stacks (from - 1) (to - 1) k.rest ne ∙ k.target

    kept : (i : ℕ) (st : List ℕ) → get_or st i 0 ≢ k.moved → get_or leasts (get_or st i 0) 0 ≡ least_ordered s.ordered (take (suc i) st) → get_or (set leasts k.moved least) (get_or st i 0) 0 ≡ least_ordered s.ordered (take (suc i) st)
    kept i st away known = get_or-set_other leasts k.moved (get_or st i 0) least 0 away ∙ known

    on_to : (r i : ℕ) (stack : List ℕ) → slice_get (set (set s.stacks (from - 1) k.rest) (to - 1) (k.onto ++ k.moved ∷ [])) r ≡ Some stack → i < length stack → r ≡ to - 1 → get_or (set leasts k.moved least) (get_or stack i 0) 0 ≡ least_ordered s.ordered (take (suc i) stack)
    on_to r i stack e lt q =
        let st : k.onto ++ k.moved ∷ [] ≡ stack = same_Some (k.onto ++ k.moved ∷ []) stack (sym (get_put_same (set s.stacks (from - 1) k.rest) (to - 1) k.onto (k.onto ++ k.moved ∷ []) onto_less) ∙ ap (slice_get (set (set s.stacks (from - 1) k.rest) (to - 1) (k.onto ++ k.moved ∷ []))) (sym q) ∙ e) in
        subst (λ v. get_or (set leasts k.moved least) (get_or v i 0) 0 ≡ least_ordered s.ordered (take (suc i) v)) st
        (⊎_elim
        (λ low.
        let away : get_or k.onto i 0 ≢ k.moved = not_on_top s (from - 1) (to - 1) i k.rest k.onto k.moved sound k.stack k.target ne low in
        let read : get_or (k.onto ++ k.moved ∷ []) i 0 ≡ get_or k.onto i 0 = get_or_append_left k.onto (k.moved ∷ []) 0 i low in
        ap (λ x. get_or (set leasts k.moved least) x 0) read ∙ kept i k.onto away (l.known (to - 1) i k.onto k.target low) ∙ ap (least_ordered s.ordered) (sym (take-append-le (suc i) k.onto (k.moved ∷ []) (omega arith))))
        (λ high.
        let at_end : length k.onto ≡ i = omega (arith, ap length st, length_rest k.onto k.moved) in
        let read : get_or (k.onto ++ k.moved ∷ []) i 0 ≡ k.moved = get_or_at k.onto k.moved [] 0 i at_end in
        let all : take (suc i) (k.onto ++ k.moved ∷ []) ≡ k.onto ++ k.moved ∷ [] = take_all (suc i) (k.onto ++ k.moved ∷ []) (omega (arith, length_rest k.onto k.moved)) in
        let long : k.moved < length leasts = omega (arith, l.all_ranks) in
        ap (λ x. get_or (set leasts k.moved least) x 0) read ∙ get_or-set_same leasts k.moved least 0 long ∙ is ∙ ap (least_ordered s.ordered) (sym all))
        (cases_lt i (length k.onto)))

    on_from : (r i : ℕ) (stack : List ℕ) → slice_get (set (set s.stacks (from - 1) k.rest) (to - 1) (k.onto ++ k.moved ∷ [])) r ≡ Some stack → i < length stack → r ≡ from - 1 → get_or (set leasts k.moved least) (get_or stack i 0) 0 ≡ least_ordered s.ordered (take (suc i) stack)
    on_from r i stack e lt q =
        let ne' : from - 1 ≢ to - 1 = λ x. ne (sym x) in
        let st : k.rest ≡ stack = same_Some k.rest stack (sym (get_put_other (set s.stacks (from - 1) k.rest) (to - 1) (from - 1) (k.onto ++ k.moved ∷ []) ne' ∙ get_put_same s.stacks (from - 1) (k.rest ++ k.moved ∷ []) k.rest k.stack)
        ∙ ap (slice_get (set (set s.stacks (from - 1) k.rest) (to - 1) (k.onto ++ k.moved ∷ []))) (sym q) ∙ e) in
        let lt' : i < length k.rest = omega (arith, ap length st) in
        let away : get_or k.rest i 0 ≢ k.moved = not_again s (from - 1) i k.rest k.moved sound k.stack lt' in
        subst (λ v. get_or (set leasts k.moved least) (get_or v i 0) 0 ≡ least_ordered s.ordered (take (suc i) v)) st
        (kept i k.rest away (under_known leasts s.ordered k.rest k.moved i lt' (l.known (from - 1) i (k.rest ++ k.moved ∷ []) k.stack (omega (arith, length_rest k.rest k.moved)))))

    other : (r i : ℕ) (stack : List ℕ) → slice_get (set (set s.stacks (from - 1) k.rest) (to - 1) (k.onto ++ k.moved ∷ [])) r ≡ Some stack → i < length stack → r ≢ to - 1 → r ≢ from - 1 → get_or (set leasts k.moved least) (get_or stack i 0) 0 ≡ least_ordered s.ordered (take (suc i) stack)
    other r i stack e lt n n' =
        let there : slice_get s.stacks r ≡ Some stack = sym (get_put_other (set s.stacks (from - 1) k.rest) (to - 1) r (k.onto ++ k.moved ∷ []) n ∙ get_put_other s.stacks (from - 1) r k.rest n') ∙ e in
        kept i stack (not_on_top s (from - 1) r i k.rest stack k.moved sound k.stack there n' lt) (l.known r i stack there lt)

-- what was known before is written back
pub known_again : (leasts : List ℕ) (c least : ℕ) → set (set leasts c least) c (get_or leasts c 0) ≡ leasts
known_again leasts c least = set-set leasts c least (get_or leasts c 0) ∙ set-get_or leasts c 0

-- a relocation, by the computed words
pub record Relocates (s : Position) (row : ℕ) : Type 0 where
  pub made : IsShifted s (suc (source s)) row (shifted s row)
  pub moved_is : made.moved ≡ moved s
  pub onto_is : made.onto ≡ stack_at s (row - 1)

pub relocates : (s : Position) (row : ℕ) → IsReached s → can_shift s row ≡ true → Relocates s row
relocates s row r h =
    let k : IsShifted s (suc (source s)) row (shifted s row) = shift_made s row (reached_sound s r) (reached_settled s r) h in
    let e : suc (source s) - 1 ≡ source s = omega arith in
    let here : stack_at s (source s) ≡ k.rest ++ k.moved ∷ [] = get_or_from_slice_get s.stacks (source s) (k.rest ++ k.moved ∷ []) [] (ap (slice_get s.stacks) (sym e) ∙ k.stack) in
    record {
      made = k;
      moved_is = sym (ap top here ∙ top_push k.rest k.moved);
      onto_is = sym (get_or_from_slice_get s.stacks (row - 1) k.onto [] k.target);
    }

-- what is known after a push
pub knows_child : (leasts : List ℕ) (s : Position) (row least : ℕ) → IsReached s → can_shift s row ≡ true → moved s ≤ 96 → KnowsLeasts leasts s →
    least ≡ (if nat_le (moved s) s.ordered then min (moved s) (least_ordered s.ordered (stack_at s (row - 1))) else least_ordered s.ordered (stack_at s (row - 1))) →
    KnowsLeasts (set leasts (moved s) least) (child s row)
knows_child leasts s row least r h few l e =
    let w : Relocates s row = relocates s row r h in
    let k = w.made in
    let moved_few : k.moved ≤ 96 = omega (arith, w.moved_is) in
    let sound = reached_sound s r in
    let is : least ≡ least_ordered s.ordered (k.onto ++ k.moved ∷ []) =
    e ∙ sym (least_push s.ordered (stack_at s (row - 1)) (moved s)) ∙ ap (λ x. least_ordered s.ordered (stack_at s (row - 1) ++ x ∷ [])) (sym w.moved_is) ∙ ap (λ v. least_ordered s.ordered (v ++ k.moved ∷ [])) (sym w.onto_is) in
    let a : KnowsLeasts (set leasts k.moved least) (shifted s row) = knows_shifted leasts s (suc (source s)) row least (shifted s row) sound l k moved_few is in
    subst (λ x. KnowsLeasts (set leasts x least) (child s row)) w.moved_is
    (knows_settle (set leasts k.moved least) _ (shifted s row) (sound_shifted s (suc (source s)) row (shifted s row) sound k) a)

-- a push takes one off the blocking bound, unless the container blocks again
pub blocking_child : (s : Position) (row : ℕ) → IsReached s → can_shift s row ≡ true → moved s ≤ 96 → blocking (child s row) + 1 ≡ blocking s + one_if (nat_lt (least_ordered s.ordered (stack_at s (row - 1))) (moved s))
blocking_child s row r h few =
    let w : Relocates s row = relocates s row r h in
    let k = w.made in
    let sound = reached_sound s r in
    let low : holds_lower s.ordered k.moved k.onto ≡ nat_lt (least_ordered s.ordered (stack_at s (row - 1))) (moved s) =
    ap (λ x. holds_lower s.ordered x k.onto) w.moved_is ∙ ap (holds_lower s.ordered (moved s)) w.onto_is ∙ lower_is_least s.ordered (moved s) (stack_at s (row - 1)) (omega arith) in
    ap (λ x. x + 1) (blocking_settle _ (shifted s row) (sound_shifted s (suc (source s)) row (shifted s row) sound k))
    ∙ blocking_shifted s (suc (source s)) row (shifted s row) sound k ∙ ap (λ b. blocking s + one_if b) low

-- by the greater of two ranks
pub blocking_goes : (s : Position) (row : ℕ) → IsReached s → can_shift s row ≡ true → moved s ≤ 96 →
    (least_ordered s.ordered (stack_at s (row - 1)) < moved s → blocking (child s row) ≡ blocking s) × (moved s ≤ least_ordered s.ordered (stack_at s (row - 1)) → blocking (child s row) + 1 ≡ blocking s)
blocking_goes s row r h few =
    let onto : ℕ = least_ordered s.ordered (stack_at s (row - 1)) in
    let e = blocking_child s row r h few in (
      λ lt. let b : one_if (nat_lt onto (moved s)) ≡ 1 = ap one_if (lt-ltb onto (moved s) lt) in omega arith,
      λ le. let b : one_if (nat_lt onto (moved s)) ≡ 0 = ap one_if (le-ltb onto (moved s) le) in omega arith,
    )

-- no more are blocked in a list than it has
blocked_few : (ordered : ℕ) (under stack : List ℕ) → blocked_in ordered under stack ≤ length stack
blocked_few ordered under [] = omega arith
blocked_few ordered under (x ∷ stack) = omega (arith, blocked_few ordered (under ++ x ∷ []) stack, one_if-le (holds_lower ordered x under))

-- nor in all stacks of a bay
blocked_rows : (ordered : ℕ) (heights : List ℕ) (stacks : List (List ℕ)) → FitRows heights stacks → ((i : ℕ) → i < length heights → get_or heights i 0 ≤ 8) → sum_by (λ stack. blocked_in ordered [] stack) stacks ≤ 8 * length heights
blocked_rows ordered [] [] fit low = omega arith
blocked_rows ordered [] (x ∷ xs) fit low = absurd fit
blocked_rows ordered (h ∷ hs) [] fit low = absurd fit
blocked_rows ordered (h ∷ hs) (x ∷ xs) fit low =
    let a = low 0 (omega arith) in
    let short = fit.0 in
    omega (arith, sum_by-cons (λ stack. blocked_in ordered [] stack) x xs, blocked_few ordered [] x, blocked_rows ordered hs xs fit.1 (λ i lt. low (suc i) (omega arith)))

-- the blocking bound is at most 96
pub few_blocked : (s : Position) → IsReached s → blocking s ≤ 96
few_blocked s r =
    let sound = reached_sound s r in
    omega (arith, blocked_rows s.ordered s.heights s.stacks sound.stacks_fit (λ i lt. (reached_low s r i 0 lt).1), (reached_rows s r).1)
