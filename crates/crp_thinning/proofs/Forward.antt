-- A step forward keeps what holds, and is undone by going back.
use Rattle.std.proofs.Common.{◌≡◌, ◌≢◌, ℕ, suc, ◌+◌, ◌-◌, ◌<◌, ◌≤◌, true, false, not, ◌==◌, nat_le, List, [], ◌∷◌, ◌++◌, length, reverse, Contains, Some, slice_get, get_or, set, sum_by, refl, sym, ap, ◌∙◌, subst, ⊎_elim, arith, length-set}
use Rattle.std.proofs.lemmas.List.{set-set, set-get_or, reverse-append, length-reverse}
use Rattle.std.proofs.lemmas.Option.{slice_get_within, get_or_from_slice_get, slice_get-get_or}
use Rattle.std.proofs.lemmas.Bool.{cases_eq, cases_lt, and_parts, not-true, leb-true, eqb-true}
use Rattle.crp_plan.specs.Rows.{holds, occurrences}
use Rattle.crp_plan.specs.Bay.{Position}
use Rattle.crp_plan.proofs.Lists.{times, one_if, times_push, same_is_one, at_le_sum, sum_put, get_put_other}
use Rattle.crp_plan.proofs.Sound.{fit_put, fit_at, length_rest, occurrences_taken, occurrences_shifted}
use Rattle.crp_plan.proofs.Steps.{same_rows}
use Rattle.crp_bay.specs.Positions.{top, without_top, ends_in, source, stack_at, can_take, taken, can_shift, shifted, targets, counted}
use Rattle.crp_bay.specs.Back.{shift_back}
use Rattle.crp_bay.proofs.Members.{from_filter}
use Rattle.crp_bay.proofs.Tops.{top_push, without_push, read_same, read_other}
use Rattle.crp_bay.proofs.Walked.{placed, held_splits, holds_push, Allows, allows, within}
use Rattle.crp_bounds.specs.Bounds.{holds_lower, blocked_in, blocking}
use Rattle.crp_bounds.proofs.Blocked.{blocked_push, none_lower, lower_from_held}
use Rattle.crp_thinned.specs.Thinned.{stands, blocker, is_missing, passed, good_rows, is_well_placed, lifted}
use Rattle.crp_thinned.specs.Missing.{IsSoundlyThin}
use Rattle.crp_thinned.proofs.Settling.{ends_there, stands_not}
use Rattle.crp_thinning.specs.declared.step.Step.{Step}
use Rattle.crp_thinning.specs.declared.step.Step.TheVariants.{Took, Passed, Put, Lifted}
use Rattle.crp_thinning.specs.Steps.{before, is_move, trail_of, IsFine, GoesBack, AreKept}

-- what holds now
pub fine_now : (steps : List Step) (s : Position) → AreKept steps s → IsFine (length steps) s
fine_now [] s k = k
fine_now (step ∷ steps) s k = k.0

-- there is room for one more step
pub step_room : (steps : List Step) (s : Position) → AreKept steps s → length steps < 256
step_room steps s k = let f = fine_now steps s k in let few = f.few in let w = f.within in let o = f.few_ordered in omega arith

-- a step that was made, and can be undone
pub went : (step : Step) (steps : List Step) (s t : Position) → before step t ≡ s → GoesBack step t → IsFine (suc (length steps)) t → AreKept steps s → AreKept (step ∷ steps) t
went step steps s t e g f k = (f, g, subst (AreKept steps) (sym e) k)

-- a container on top of a stack
pub record OnTop (s : Position) (i : ℕ) (rest : List ℕ) (x : ℕ) : Type 0 where
  pub here : slice_get s.stacks i ≡ Some (rest ++ x ∷ [])
  pub there : i < length s.stacks
  pub is : stack_at s i ≡ rest ++ x ∷ []
  pub short : length rest < 8
  pub some : 0 < length (stack_at s i)
  pub fits : (h : ℕ) → slice_get s.heights i ≡ Some h → length rest ≤ h
  pub stood : 1 ≤ occurrences x s.stacks

-- no stack is above 8
pub low_stack : (count : ℕ) (s : Position) (i : ℕ) (stack : List ℕ) → IsFine count s → slice_get s.stacks i ≡ Some stack → length stack ≤ 8
low_stack count s i stack f e =
    let lt = slice_get_within s.stacks i stack e in
    let lt' : i < length s.heights = omega (arith, same_rows s.heights s.stacks f.stacks_fit) in
    let h = f.low i 0 lt' in
    omega (arith, fit_at s.heights s.stacks i stack (get_or s.heights i 0) f.stacks_fit e (slice_get-get_or s.heights i 0 lt'))

pub on_top : (count : ℕ) (s : Position) (i : ℕ) (rest : List ℕ) (x : ℕ) → IsFine count s → slice_get s.stacks i ≡ Some (rest ++ x ∷ []) → OnTop s i rest x
on_top count s i rest x f e =
    let is : stack_at s i ≡ rest ++ x ∷ [] = get_or_from_slice_get s.stacks i (rest ++ x ∷ []) [] e in
    record {
      here = e;
      there = slice_get_within s.stacks i (rest ++ x ∷ []) e;
      is = is;
      short = omega (arith, low_stack count s i (rest ++ x ∷ []) f e, length_rest rest x);
      some = omega (arith, ap length is, length_rest rest x);
      fits = λ h q. omega (arith, fit_at s.heights s.stacks i (rest ++ x ∷ []) h f.stacks_fit e q, length_rest rest x);
      stood = omega (arith, at_le_sum (times x) s.stacks i (rest ++ x ∷ []) e, times_push x rest x, same_is_one x);
    }

-- the one whose turn it is, where it can be taken
pub took : (count : ℕ) (s : Position) → IsFine count s → can_take s ≡ true → OnTop s (source s) (without_top (stack_at s (source s))) s.next
took count s f t =
    let parts = and_parts (nat_le s.next s.ordered) (ends_in s.next (stack_at s (source s))) t in
    on_top count s (source s) (without_top (stack_at s (source s))) s.next f (ends_there s.next s.stacks (source s) parts.1)

-- the positions with other stacks
abbrev pub on : Position → ℕ → List (List ℕ) → Position
on s n stacks = record { heights = s.heights; ordered = s.ordered; next = n; stacks = stacks }

-- without the top of a stack
fine_less : (count more n : ℕ) (s : Position) (i : ℕ) (rest : List ℕ) (x : ℕ) → IsFine count s → OnTop s i rest x → n ≤ s.ordered + 1 →
    ((y : ℕ) → y < n → occurrences y (set s.stacks i rest) ≡ 0) → more + blocking (on s n (set s.stacks i rest)) ≤ 96 + n → IsFine more (on s n (set s.stacks i rest))
fine_less count more n s i rest x f o within gone few = record {
  few_rows = f.few_rows;
  low = f.low;
  few_ordered = f.few_ordered;
  stacks_fit = fit_put s.heights s.stacks i rest f.stacks_fit o.fits;
  once = λ y. omega (arith, occurrences_taken y x s.stacks i rest o.here, f.once y);
  ranks = λ y h. f.ranks y (omega (arith, occurrences_taken y x s.stacks i rest o.here));
  gone = gone;
  within = within;
  few = few;
}

-- how many block without the top of a stack
blocks_less : (N : ℕ) (stacks : List (List ℕ)) (i : ℕ) (rest : List ℕ) (x : ℕ) → slice_get stacks i ≡ Some (rest ++ x ∷ []) →
    sum_by (λ st. blocked_in N [] st) (set stacks i rest) + one_if (holds_lower N x rest) ≡ sum_by (λ st. blocked_in N [] st) stacks
blocks_less N stacks i rest x h = omega (arith, sum_put (λ st. blocked_in N [] st) stacks i (rest ++ x ∷ []) rest h, blocked_push N [] rest x)

pub fine_taken : (count : ℕ) (s : Position) → IsFine count s → can_take s ≡ true → IsFine (suc count) (taken s)
fine_taken count s f t =
    let n : ℕ = s.next in let i : ℕ = source s in let rest : List ℕ = without_top (stack_at s i) in
    let parts = and_parts (nat_le n s.ordered) (ends_in n (stack_at s i)) t in
    let le : n ≤ s.ordered = leb-true n s.ordered parts.0 in
    let o = took count s f t in
    let none : holds_lower s.ordered n rest ≡ false = none_lower s.ordered n rest (λ d a b. omega (arith, f.gone d b, at_le_sum (times d) s.stacks i (rest ++ n ∷ []) o.here, times_push d rest n)) in
    let few = f.few in
    fine_less count (suc count) (suc n) s i rest n f o (omega arith)
    (λ y lt. ⊎_elim
    (λ q. omega (arith, occurrences_taken y n s.stacks i rest o.here, f.once y, ap one_if (ap (λ z. z == y) q), same_is_one y))
    (λ ne. omega (arith, occurrences_taken y n s.stacks i rest o.here, f.gone y (omega arith)))
    (cases_eq n y))
    (omega (arith, blocks_less s.ordered s.stacks i rest n o.here, ap one_if none))

pub fine_passed : (count : ℕ) (s : Position) → IsFine count s → is_missing s ≡ true → IsFine (suc count) (passed s)
fine_passed count s f t =
    let n : ℕ = s.next in
    let parts = and_parts (nat_le n s.ordered) (not (stands n s.stacks)) t in
    let le : n ≤ s.ordered = leb-true n s.ordered parts.0 in
    let none = stands_not n s.stacks (not-true (stands n s.stacks) parts.1) in
    let few = f.few in
    record {
      few_rows = f.few_rows;
      low = f.low;
      few_ordered = f.few_ordered;
      stacks_fit = f.stacks_fit;
      once = f.once;
      ranks = f.ranks;
      gone = λ y lt. ⊎_elim (λ q. ap (λ z. occurrences z s.stacks) q ∙ none) (λ ne. f.gone y (omega arith)) (cases_eq y n);
      within = omega arith;
      few = omega arith;
    }

-- the blocker, and what stands below it
pub record Blocker (s : Position) : Type 0 where
  pub top_is : OnTop s (source s) (without_top (stack_at s (source s))) (blocker s)
  pub few : blocker s ≤ 96
  pub blocks : holds_lower s.ordered (blocker s) (without_top (stack_at s (source s))) ≡ true

pub blocker_of : (count : ℕ) (s : Position) → IsFine count s → IsSoundlyThin s → s.next ≤ s.ordered → Blocker s
blocker_of count s f thin le =
    let i : ℕ = source s in let rest : List ℕ = without_top (stack_at s i) in let x : ℕ = blocker s in
    let r = placed s.next s.stacks (thin.settled.there le) in
    let is_at : stack_at s i ≡ r.0 = get_or_from_slice_get s.stacks i r.0 [] r.1 in
    let split : r.0 ≡ rest ++ x ∷ [] = held_splits s.next r.0 r.2 ∙ ap (λ l. without_top l ++ top l ∷ []) (sym is_at) in
    let o = on_top count s i rest x f (r.1 ∙ ap Some split) in
    let not_next : x ≢ s.next = λ q. thin.settled.no_take (suc i) (record s { next = suc s.next; stacks = set s.stacks (suc i - 1) rest })
    (record { unfinished = le; row_counts = omega arith; rest = rest; stack = ap (slice_get s.stacks) (same i) ∙ o.here ∙ ap (λ y. Some (rest ++ y ∷ [])) q; after = refl }) in
    let above : s.next < x = ⊎_elim (λ lt. let s1 = o.stood in absurd (omega (arith, f.gone x lt))) (λ ge. omega arith) (cases_lt x s.next) in
    let buried : holds s.next rest ≡ true = ⊎_elim (λ b. b) (λ t. absurd (not_next (eqb-true x s.next t))) (holds_push s.next rest x (ap (holds s.next) (sym split) ∙ r.2)) in
    record { top_is = o; few = f.ranks x o.stood; blocks = lower_from_held s.ordered s.next x rest le above buried }
  where
    same : (i : ℕ) → suc i - 1 ≡ i
    same i = omega arith

pub fine_lifted : (count : ℕ) (s : Position) → IsFine count s → IsSoundlyThin s → s.next ≤ s.ordered → IsFine (suc count) (lifted s)
fine_lifted count s f thin le =
    let b = blocker_of count s f thin le in
    let i : ℕ = source s in let rest : List ℕ = without_top (stack_at s i) in
    let few = f.few in
    fine_less count (suc count) s.next s i rest (blocker s) f b.top_is f.within
    (λ y lt. omega (arith, occurrences_taken y (blocker s) s.stacks i rest b.top_is.here, f.gone y lt))
    (omega (arith, blocks_less s.ordered s.stacks i rest (blocker s) b.top_is.here, ap one_if b.blocks))

-- the other row
pub record Onto (s : Position) (row : ℕ) : Type 0 where
  pub unfinished : s.next ≤ s.ordered
  pub counts : 1 ≤ row
  pub apart : row - 1 ≢ source s
  pub there : row - 1 < length s.stacks
  pub onto_is : slice_get s.stacks (row - 1) ≡ Some (stack_at s (row - 1))
  pub room : length (stack_at s (row - 1)) < get_or s.heights (row - 1) 0
  pub short : length (stack_at s (row - 1)) < 8
  pub free : holds_lower s.ordered (blocker s) (stack_at s (row - 1)) ≡ false

pub onto_of : (count : ℕ) (s : Position) (row : ℕ) → IsFine count s → Contains (good_rows s) row → Onto s row
onto_of count s row f c =
    let legal = from_filter (is_well_placed s) (targets s) row c in
    let a : Allows s row = allows s row (from_filter (can_shift s) (counted 1 (length s.heights)) row legal.1).0 in
    let in_heights : row - 1 < length s.heights = within s.heights (row - 1) (let r = a.room in omega arith) in
    let there : row - 1 < length s.stacks = omega (arith, same_rows s.heights s.stacks f.stacks_fit) in
    let h = f.low (row - 1) 0 in_heights in let room = a.room in
    record {
      unfinished = a.unfinished;
      counts = a.counts;
      apart = λ e. a.another (sym e);
      there = there;
      onto_is = slice_get-get_or s.stacks (row - 1) [] there;
      room = room;
      short = omega arith;
      free = not-true (holds_lower s.ordered (blocker s) (stack_at s (row - 1))) legal.0;
    }

pub good_row : (count : ℕ) (s : Position) (row : ℕ) → IsFine count s → Contains (good_rows s) row → (1 ≤ row) × (row ≤ length s.heights)
good_row count s row f c = let w = onto_of count s row f c in let counts = w.counts in let there = w.there in (counts, omega (arith, same_rows s.heights s.stacks f.stacks_fit))

pub fine_shifted : (count : ℕ) (s : Position) (row : ℕ) → IsFine count s → IsSoundlyThin s → Contains (good_rows s) row → IsFine (suc count) (shifted s row)
fine_shifted count s row f thin c =
    let w = onto_of count s row f c in
    let b = blocker_of count s f thin w.unfinished in let o = b.top_is in
    let i : ℕ = source s in let j : ℕ = row - 1 in let rest : List ℕ = without_top (stack_at s i) in let x : ℕ = blocker s in let onto : List ℕ = stack_at s j in
    let less : List (List ℕ) = set s.stacks i rest in
    let g : List ℕ → ℕ = λ st. blocked_in s.ordered [] st in
    let few = f.few in
    record {
      few_rows = f.few_rows;
      low = f.low;
      few_ordered = f.few_ordered;
      stacks_fit = fit_put s.heights less j (onto ++ x ∷ []) (fit_put s.heights s.stacks i rest f.stacks_fit o.fits)
          (λ h e. let r = w.room in omega (arith, get_or_from_slice_get s.heights j h 0 e, length_rest onto x));
      once = λ y. omega (arith, occurrences_shifted y x s.stacks i j rest onto w.apart o.here w.onto_is, f.once y);
      ranks = λ y h. f.ranks y (omega (arith, occurrences_shifted y x s.stacks i j rest onto w.apart o.here w.onto_is));
      gone = λ y lt. omega (arith, occurrences_shifted y x s.stacks i j rest onto w.apart o.here w.onto_is, f.gone y lt);
      within = f.within;
      few = omega (
        arith,
        blocks_less s.ordered s.stacks i rest x o.here,
        ap one_if b.blocks,
        sum_put g less j onto (onto ++ x ∷ []) (get_put_other s.stacks i j rest w.apart ∙ w.onto_is),
        blocked_push s.ordered [] onto x,
        ap one_if w.free,
      );
    }

-- back by a take
pub back_taken : (count : ℕ) (s : Position) → IsFine count s → can_take s ≡ true → (before (Took (source s)) (taken s) ≡ s) × GoesBack (Took (source s)) (taken s)
back_taken count s f t =
    let o = took count s f t in
    let n : suc s.next - 1 ≡ s.next = omega arith in
    let i : ℕ = source s in let rest : List ℕ = without_top (stack_at s i) in
    let less : List (List ℕ) = set s.stacks i rest in
    let short = o.short in let there = o.there in
    let read : get_or less i [] ≡ rest = read_same s.stacks i rest there in (
      ap (λ k. on s k (set less i (get_or less i [] ++ k ∷ []))) n
          ∙ ap (λ v. on s s.next (set less i (v ++ s.next ∷ []))) read
          ∙ ap (on s s.next) (set-set s.stacks i rest (rest ++ s.next ∷ []))
          ∙ ap (λ v. on s s.next (set s.stacks i v)) (sym o.is)
          ∙ ap (on s s.next) (set-get_or s.stacks i []),
      (omega arith, omega (arith, length-set s.stacks i rest), omega (arith, ap length read)),
    )

pub back_passed : (s : Position) → (before Passed (passed s) ≡ s) × GoesBack Passed (passed s)
back_passed s = let n : suc s.next - 1 ≡ s.next = omega arith in (ap (λ k. on s k s.stacks) n, omega arith)

-- back by a lift
pub back_lifted : (count : ℕ) (s : Position) → IsFine count s → IsSoundlyThin s → s.next ≤ s.ordered → (before (Lifted (source s) (blocker s)) (lifted s) ≡ s) × GoesBack (Lifted (source s) (blocker s)) (lifted s)
back_lifted count s f thin le =
    let b = blocker_of count s f thin le in let o = b.top_is in
    let i : ℕ = source s in let rest : List ℕ = without_top (stack_at s i) in let x : ℕ = blocker s in
    let less : List (List ℕ) = set s.stacks i rest in
    let short = o.short in let there = o.there in
    let read : get_or less i [] ≡ rest = read_same s.stacks i rest there in
    let e : before (Lifted i x) (lifted s) ≡ s =
    ap (λ v. on s s.next (set less i (v ++ x ∷ []))) read
    ∙ ap (on s s.next) (set-set s.stacks i rest (rest ++ x ∷ []))
    ∙ ap (λ v. on s s.next (set s.stacks i v)) (sym o.is)
    ∙ ap (on s s.next) (set-get_or s.stacks i []) in
    (e, (omega (arith, length-set s.stacks i rest), omega (arith, ap length read), subst IsSoundlyThin (sym e) thin))

-- back by a relocation
pub back_shifted : (count : ℕ) (s : Position) (row : ℕ) → IsFine count s → IsSoundlyThin s → Contains (good_rows s) row →
    (before (Put (source s) (row - 1)) (shifted s row) ≡ s) × GoesBack (Put (source s) (row - 1)) (shifted s row)
back_shifted count s row f thin c =
    let w = onto_of count s row f c in
    let b = blocker_of count s f thin w.unfinished in let o = b.top_is in
    let i : ℕ = source s in let j : ℕ = row - 1 in let rest : List ℕ = without_top (stack_at s i) in let x : ℕ = blocker s in let onto : List ℕ = stack_at s j in
    let less : List (List ℕ) = set s.stacks i rest in
    let more : List (List ℕ) = set less j (onto ++ x ∷ []) in
    let short = o.short in let from_lt = o.there in let to_lt = w.there in
    let j_lt : j < length less = omega (arith, length-set s.stacks i rest) in
    let top_at : get_or more j [] ≡ onto ++ x ∷ [] = read_same less j (onto ++ x ∷ []) j_lt in
    let down : set more j (without_top (get_or more j [])) ≡ less =
    ap (λ v. set more j (without_top v)) top_at
    ∙ ap (set more j) (without_push onto x)
    ∙ set-set less j (onto ++ x ∷ []) onto
    ∙ ap (set less j) (sym (read_other s.stacks i j rest w.apart))
    ∙ set-get_or less j [] in
    let onto_top : top (get_or more j []) ≡ x = ap top top_at ∙ top_push onto x in
    let read : get_or less i [] ≡ rest = read_same s.stacks i rest from_lt in
    let back : List (List ℕ) → ℕ → Position = λ v y. on s s.next (set v i (get_or v i [] ++ y ∷ [])) in
    let e : shift_back i j (shifted s row) ≡ s =
    ap (λ v. back v (top (get_or more j []))) down
    ∙ ap (back less) onto_top
    ∙ ap (λ v. on s s.next (set less i (v ++ x ∷ []))) read
    ∙ ap (on s s.next) (set-set s.stacks i rest (rest ++ x ∷ []))
    ∙ ap (λ v. on s s.next (set s.stacks i v)) (sym o.is)
    ∙ ap (on s s.next) (set-get_or s.stacks i []) in (
      e,
      (
        omega (arith, length-set less j (onto ++ x ∷ [])),
        omega (arith, ap length top_at, length_rest onto x),
        omega (arith, length-set less j (onto ++ x ∷ []), length-set s.stacks i rest),
        omega (arith, ap (λ v. length (get_or v i [])) down, ap length read),
        subst IsSoundlyThin (sym e) thin,
      ),
    )

-- the steps with one more
pub kept_taken : (steps : List Step) (s : Position) → AreKept steps s → can_take s ≡ true → AreKept (Took (source s) ∷ steps) (taken s)
kept_taken steps s k t = let f = fine_now steps s k in let b = back_taken (length steps) s f t in went (Took (source s)) steps s (taken s) b.0 b.1 (fine_taken (length steps) s f t) k

pub kept_passed : (steps : List Step) (s : Position) → AreKept steps s → is_missing s ≡ true → AreKept (Passed ∷ steps) (passed s)
kept_passed steps s k t = let f = fine_now steps s k in let b = back_passed s in went Passed steps s (passed s) b.0 b.1 (fine_passed (length steps) s f t) k

pub kept_lifted : (steps : List Step) (s : Position) → AreKept steps s → IsSoundlyThin s → s.next ≤ s.ordered → AreKept (Lifted (source s) (blocker s) ∷ steps) (lifted s)
kept_lifted steps s k thin le =
    let f = fine_now steps s k in let b = back_lifted (length steps) s f thin le in went (Lifted (source s) (blocker s)) steps s (lifted s) b.0 b.1 (fine_lifted (length steps) s f thin le) k

pub kept_shifted : (steps : List Step) (s : Position) (row : ℕ) → AreKept steps s → IsSoundlyThin s → Contains (good_rows s) row → AreKept (Put (source s) (row - 1) ∷ steps) (shifted s row)
kept_shifted steps s row k thin c =
    let f = fine_now steps s k in let b = back_shifted (length steps) s row f thin c in went (Put (source s) (row - 1)) steps s (shifted s row) b.0 b.1 (fine_shifted (length steps) s row f thin c) k

-- the same of the steps as code has them
pub kept_on : (items more : List Step) (step : Step) (t u : Position) → AreKept (step ∷ reverse items) t → more ≡ items ++ step ∷ [] → u ≡ t → AreKept (reverse more) u
kept_on items more step t u k e q = subst (λ l. AreKept l u) (sym (ap reverse e ∙ reverse-append items (step ∷ []))) (subst (AreKept (step ∷ reverse items)) (sym q) k)

pub room_on : (items : List Step) (s : Position) → AreKept (reverse items) s → length items < 256
room_on items s k = omega (arith, step_room (reverse items) s k, length-reverse items)

pub next_fits : (steps : List Step) (s : Position) → AreKept steps s → s.next ≤ 97
next_fits steps s k = let f = fine_now steps s k in let w = f.within in let o = f.few_ordered in omega arith

-- the trail over a step
pub trail_taken : (count : ℕ) (steps : List Step) (s : Position) → IsFine count s → can_take s ≡ true → trail_of (Took (source s) ∷ steps) (taken s) ≡ trail_of steps s
trail_taken count steps s f t = ap (trail_of steps) (back_taken count s f t).0

pub trail_passed : (steps : List Step) (s : Position) → trail_of (Passed ∷ steps) (passed s) ≡ trail_of steps s
trail_passed steps s = ap (trail_of steps) (back_passed s).0

pub trail_lifted : (count : ℕ) (steps : List Step) (s : Position) → IsFine count s → IsSoundlyThin s → s.next ≤ s.ordered → trail_of (Lifted (source s) (blocker s) ∷ steps) (lifted s) ≡ s ∷ trail_of steps s
trail_lifted count steps s f thin le = ap (λ v. v ∷ trail_of steps v) (back_lifted count s f thin le).0

pub trail_shifted : (count : ℕ) (steps : List Step) (s : Position) (row : ℕ) → IsFine count s → IsSoundlyThin s → Contains (good_rows s) row → trail_of (Put (source s) (row - 1) ∷ steps) (shifted s row) ≡ s ∷ trail_of steps s
trail_shifted count steps s row f thin c = ap (λ v. v ∷ trail_of steps v) (back_shifted count s row f thin c).0

-- before a relocation or a lift the position was a sound one
pub thin_before : (step : Step) (s : Position) → GoesBack step s → is_move step ≡ true → IsSoundlyThin (before step s)
thin_before (Took row) s g h = cc
thin_before Passed s g h = cc
thin_before (Put from to) s g h = g.4
thin_before (Lifted from rank) s g h = g.2

-- the trail of the steps as code has them
pub seen_on : (items more : List Step) (step : Step) (t u : Position) → more ≡ items ++ step ∷ [] → u ≡ t → trail_of (reverse more) u ≡ trail_of (step ∷ reverse items) t
seen_on items more step t u e q = ap (λ l. trail_of l u) (ap reverse e ∙ reverse-append items (step ∷ [])) ∙ ap (trail_of (step ∷ reverse items)) q

-- the last of them, as code has them
pub last_thin : (items rest : List Step) (step : Step) (s : Position) → items ≡ rest ++ step ∷ [] → AreKept (reverse items) s → is_move step ≡ true → IsSoundlyThin (before step s)
last_thin items rest step s e k h = thin_before step s (subst (λ l. AreKept l s) (ap reverse e ∙ reverse-append rest (step ∷ [])) k).1 h

-- no more positions before than steps
pub trail_short : (steps : List Step) (s : Position) → length (trail_of steps s) ≤ length steps
trail_short [] s = omega arith
trail_short (Took row ∷ steps) s = omega (arith, trail_short steps (before (Took row) s))
trail_short (Passed ∷ steps) s = omega (arith, trail_short steps (before Passed s))
trail_short (Put from to ∷ steps) s = omega (arith, trail_short steps (before (Put from to) s))
trail_short (Lifted from rank ∷ steps) s = omega (arith, trail_short steps (before (Lifted from rank) s))
