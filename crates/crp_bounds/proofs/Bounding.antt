-- Both bounds fall by at most one at a relocation, and not at all at a take.
use Rattle.std.proofs.Common.{◌≡◌, ℕ, suc, ◌+◌, ◌-◌, ◌<◌, ◌≤◌, Bool, true, false, ◌||◌, nat_le, List, [], ◌∷◌, ◌++◌, length, map, Some, slice_get, slice_set, count_by, refl, sym, ap, ◌∙◌, subst, ⊎_elim, arith, append-nil}
use Rattle.std.proofs.lemmas.Bool.{cases_Bool, or_cases, leb-true, eq-eqb}
use Rattle.crp_plan.specs.declared.moves.Move.{Move}
use Rattle.crp_plan.specs.declared.moves.Move.TheVariants.{Shift, Take}
use Rattle.crp_plan.specs.Rows.{holds, occurrences, above, below}
use Rattle.crp_plan.specs.Bay.{Problem, IsProblem, IsAt, start, Position, IsSound, IsTaken, IsShifted, Runs, IsFinished, relocations, path_of}
use Rattle.crp_bounds.specs.Bounds.{holds_lower, blocking, has_no_place, stuck_above, stuck_from, look_ahead}
use Rattle.crp_plan.proofs.Lists.{times, one_if, sum_put, at_le_sum, get_put_other, times_push, times_held, same_is_one}
use Rattle.crp_plan.proofs.Sound.{apart, sound_taken, sound_shifted, sound_runs, sound_start, occurrences_taken}
use Rattle.crp_plan.proofs.Determined.{no_shift_beside_take}
use Rattle.crp_plan.proofs.Paths.{LastShift, last_shift, same_at}
use Rattle.crp_bounds.proofs.Blocked.{blocking_taken, blocking_shifted, blocking_none, above_next, lower_from_held}
use Rattle.crp_plan.proofs.Buried.{above_held, above_not_held, below_held, below_not_held, below_absent}
use Rattle.crp_bounds.proofs.Stuck.{Extends, counted_grows, counted_absent, count-append, one_if-mono, no_place_grows, no_place_kept, no_place_at, stuck_grows, below_grows, extends_put, cut_put, cut_absent}

-- the steps of the look-ahead before the last rank
steps : (ordered next : ℕ) → next ≤ ordered → suc ordered - next ≡ suc (ordered - next)
steps ordered next h = omega arith

-- the first step of the look-ahead
one_step : (ordered : ℕ) (heights : List ℕ) (stacks : List (List ℕ)) (next : ℕ) → next ≤ ordered →
    stuck_from ordered heights (suc ordered - next) stacks next ≡ stuck_above ordered heights stacks next + stuck_from ordered heights (ordered - next) (map (below next) stacks) (suc next)
one_step ordered heights stacks next h = ap (λ m. stuck_from ordered heights m stacks next) (steps ordered next h)

-- a rank on top that stands once does not stand below
rest_absent : (k : ℕ) (rest : List ℕ) → times k (rest ++ k ∷ []) ≤ 1 → times k rest ≡ 0
rest_absent k rest h = omega (arith, times_push k rest k, same_is_one k)

-- nothing stands above the top
top_above : (k : ℕ) → above k (k ∷ []) ≡ []
top_above k = rw (eq-eqb k k refl) refl

-- nothing stands below a rank that stands alone
top_below : (k : ℕ) → below k (k ∷ []) ≡ []
top_below k = rw (eq-eqb k k refl) refl

-- a take leaves the look-ahead bound
pub ahead_taken : (s : Position) (row : ℕ) (t : Position) → IsSound s → IsTaken s row t → look_ahead t ≡ look_ahead s
ahead_taken s row t sound k =
    let N : ℕ = s.ordered in let n : ℕ = s.next in let A : List (List ℕ) = s.stacks in let B : List (List ℕ) = slice_set s.stacks (row - 1) k.rest in
    let there : times n (k.rest ++ n ∷ []) ≤ 1 = omega (arith, sound.once n, at_le_sum (times n) A (row - 1) (k.rest ++ n ∷ []) k.stack) in
    let none : times n k.rest ≡ 0 = rest_absent n k.rest there in
    let gone : occurrences n B ≡ 0 = omega (arith, occurrences_taken n n A (row - 1) k.rest k.stack, same_is_one n, sound.once n) in
    let free : holds n k.rest ≡ false = ⊎_elim (λ e. absurd (omega (arith, times_held n k.rest e))) (λ e. e) (cases_Bool (holds n k.rest)) in
    let p : ℕ → Bool = has_no_place N n s.heights A in
    let empty : above n (k.rest ++ n ∷ []) ≡ [] = above_not_held n k.rest (n ∷ []) free ∙ top_above n in
    let counts : stuck_above N s.heights A n ≡ 0 =
    omega (arith, sum_put (λ st. count_by p (above n st)) A (row - 1) (k.rest ++ n ∷ []) k.rest k.stack, ap (count_by p) empty, counted_absent p n B gone) in
    let under : below n k.rest ≡ below n (k.rest ++ n ∷ []) =
    below_absent n k.rest none ∙ sym (below_not_held n k.rest (n ∷ []) free ∙ ap (λ l. k.rest ++ l) (top_below n) ∙ append-nil k.rest) in
    let cut : map (below n) A ≡ B = sym (cut_put n A (row - 1) (k.rest ++ n ∷ []) k.rest k.stack under) ∙ cut_absent n B gone in
    let fewer : suc N - suc n ≡ N - n = omega arith in
    let u : Position = record s { next = suc n; stacks = B } in
    let same : blocking u ≡ blocking s = sym (ap blocking k.after) ∙ blocking_taken s row t sound k in
    let to : look_ahead u ≡ look_ahead s =
    omega (arith, same, one_step N s.heights A n k.unfinished, counts, ap (λ l. stuck_from N s.heights (N - n) l (suc n)) cut, ap (λ m. stuck_from N s.heights m B (suc n)) fewer) in
    ap look_ahead k.after ∙ to

-- a shift takes one at most off the look-ahead bound
pub ahead_shifted : (s : Position) (from to : ℕ) (t : Position) → IsSound s → IsShifted s from to t → look_ahead s ≤ 1 + look_ahead t
ahead_shifted s from to t sound k =
    let N : ℕ = s.ordered in let n : ℕ = s.next in let c : ℕ = k.moved in let hs : List ℕ = s.heights in
    let A : List (List ℕ) = s.stacks in
    let M : List (List ℕ) = slice_set A (from - 1) k.rest in
    let B : List (List ℕ) = slice_set M (to - 1) (k.onto ++ c ∷ []) in
    let target : slice_get M (to - 1) ≡ Some k.onto = get_put_other A (from - 1) (to - 1) k.rest (apart from to k.from_counts k.to_counts k.another) ∙ k.target in
    let grown : Extends M B = extends_put M (to - 1) k.onto (c ∷ []) target in
    let p : ℕ → Bool = has_no_place N n hs A in
    let q : ℕ → Bool = has_no_place N n hs B in
    let onward : (x : ℕ) → p x ≡ true → q x ≡ true =
    λ x e. no_place_grows N n hs M B x grown (no_place_kept N n hs A (from - 1) k.rest x k.buried e) in
    -- the first step: only c itself may be lost
    let first : stuck_above N hs A n ≤ stuck_above N hs B n + one_if (p c) =
    omega (
      arith,
      sum_put (λ st. count_by p (above n st)) A (from - 1) (k.rest ++ c ∷ []) k.rest k.stack,
      ap (count_by p) (above_held n k.rest (c ∷ []) k.buried),
      count-append p (above n k.rest) (c ∷ []),
      counted_grows p q n onward M B grown,
    ) in
    -- then the row is cut below c
    let cut : map (below n) M ≡ map (below n) A = cut_put n A (from - 1) (k.rest ++ c ∷ []) k.rest k.stack (sym (below_held n k.rest (c ∷ []) k.buried)) in
    let later : stuck_from N hs (N - n) (map (below n) A) (suc n) ≤ stuck_from N hs (N - n) (map (below n) B) (suc n) =
    omega (arith, stuck_grows N hs (N - n) (map (below n) M) (map (below n) B) (suc n) (below_grows n M B grown), ap (λ l. stuck_from N hs (N - n) l (suc n)) cut) in
    -- where c counted it is blocked again
    let blocked : p c ≡ true → holds_lower N c k.onto ≡ true = λ e.
    ⊎_elim
    (λ full. let short : length k.onto < k.height = k.room in absurd (omega (arith, leb-true k.height (length k.onto) full)))
    (λ other. ⊎_elim (λ held. lower_from_held N n c k.onto k.unfinished (above_next s from to t sound k) held) (λ low. low) (or_cases (holds n k.onto) (holds_lower N c k.onto) other))
    (or_cases (nat_le k.height (length k.onto)) (holds n k.onto || holds_lower N c k.onto) (no_place_at N n hs A (to - 1) k.height k.onto c k.limit k.target e)) in
    let u : Position = record s { stacks = B } in
    let blocks : blocking u + 1 ≡ blocking s + one_if (holds_lower N c k.onto) = ap (λ x. x + 1) (sym (ap blocking k.after)) ∙ blocking_shifted s from to t sound k in
    let to_u : look_ahead s ≤ 1 + look_ahead u =
    omega (arith, first, later, blocks, one_if-mono (p c) (holds_lower N c k.onto) blocked, one_step N hs A n k.unfinished, one_step N hs B n k.unfinished) in
    let P : Position → Type 0 = λ v. look_ahead s ≤ 1 + look_ahead v in
    subst P (sym k.after) to_u

-- a shift takes one at most off the blocking bound
pub blocking_falls : (s : Position) (from to : ℕ) (t : Position) → IsSound s → IsShifted s from to t → blocking s ≤ 1 + blocking t
blocking_falls s from to t sound k = omega (arith, blocking_shifted s from to t sound k)

-- over whole runs
pub ahead_runs : (s : Position) (moves : List Move) (t : Position) → IsSound s → Runs s moves t → look_ahead s ≤ relocations moves + look_ahead t
ahead_runs s [] t sound r = omega (arith, ap look_ahead r)
ahead_runs s (Shift from to ∷ moves) t sound r =
    omega (arith, ahead_shifted s from to r.0 sound r.1, ahead_runs r.0 moves t (sound_shifted s from to r.0 sound r.1) r.2)
ahead_runs s (Take row ∷ moves) t sound r =
    omega (arith, ahead_taken s row r.0 sound r.1, ahead_runs r.0 moves t (sound_taken s row r.0 sound r.1) r.2)

-- the same for the blocking bound
pub blocking_runs : (s : Position) (moves : List Move) (t : Position) → IsSound s → Runs s moves t → blocking s ≤ relocations moves + blocking t
blocking_runs s [] t sound r = omega (arith, ap blocking r)
blocking_runs s (Shift from to ∷ moves) t sound r =
    omega (arith, blocking_falls s from to r.0 sound r.1, blocking_runs r.0 moves t (sound_shifted s from to r.0 sound r.1) r.2)
blocking_runs s (Take row ∷ moves) t sound r =
    omega (arith, blocking_taken s row r.0 sound r.1, blocking_runs r.0 moves t (sound_taken s row r.0 sound r.1) r.2)

-- at the end nothing is blocked
pub blocking_end : (t : Position) → IsSound t → IsFinished t → blocking t ≡ 0
blocking_end t sound end = blocking_none t.ordered t.stacks (λ d le. sound.gone d (omega arith))

-- at the end nothing counts
pub ahead_end : (t : Position) → IsSound t → IsFinished t → look_ahead t ≡ 0
ahead_end t sound end =
    let none : suc t.ordered - t.next ≡ 0 = omega arith in
    omega (arith, blocking_end t sound end, ap (λ m. stuck_from t.ordered t.heights m t.stacks t.next) none)

-- the look-ahead bound is below every run to the end
pub ahead_bound : (s : Position) (moves : List Move) (t : Position) → IsSound s → Runs s moves t → IsFinished t → look_ahead s ≤ relocations moves
ahead_bound s moves t sound r end = omega (arith, ahead_runs s moves t sound r, ahead_end t (sound_runs s moves t sound r) end)

-- the blocking bound is below every run to the end
pub blocking_bound : (s : Position) (moves : List Move) (t : Position) → IsSound s → Runs s moves t → IsFinished t → blocking s ≤ relocations moves
blocking_bound s moves t sound r end = omega (arith, blocking_runs s moves t sound r, blocking_end t (sound_runs s moves t sound r) end)

-- without a shift there is no relocation
no_path : (moves : List Move) → path_of moves ≡ [] → relocations moves ≡ 0
no_path [] e = refl
no_path (Shift from to ∷ moves) e = cc
no_path (Take row ∷ moves) e = no_path moves e

-- the last shift of a longer path starts at the position of the shorter
grown_run : (p : Problem) (path : List ℕ) (row : ℕ) (s t : Position) → IsProblem p → IsAt p path s → IsAt p (path ++ row ∷ []) t →
    (l : LastShift (start p) path row t) → s ≡ l.before
grown_run p path row s t is a b l =
    let sound : IsSound l.before = sound_runs (start p) l.first l.before (sound_start p is) l.to_it in
    same_at p path s l.before is a (record {
      moves = l.first;
      runs = l.to_it;
      by_path = l.by_path;
      no_take = λ x v k. no_shift_beside_take l.before x l.from row v l.after sound k l.shift;
    })

-- along a legal row the look-ahead bound falls by one at most
pub ahead_path : (p : Problem) (path : List ℕ) (row : ℕ) (s t : Position) → IsProblem p → IsAt p path s → IsAt p (path ++ row ∷ []) t → look_ahead s ≤ 1 + look_ahead t
ahead_path p path row s t is a b =
    let l = last_shift (start p) t b.moves path row b.runs b.by_path in
    let e : s ≡ l.before = grown_run p path row s t is a b l in
    let sound : IsSound l.before = sound_runs (start p) l.first l.before (sound_start p is) l.to_it in
    let sound' : IsSound l.after = sound_shifted l.before l.from row l.after sound l.shift in
    omega (arith, ap look_ahead e, ahead_shifted l.before l.from row l.after sound l.shift, ahead_runs l.after l.takes t sound' l.from_it, no_path l.takes l.all_takes)

-- along a legal row the blocking bound falls by one at most
pub blocking_path : (p : Problem) (path : List ℕ) (row : ℕ) (s t : Position) → IsProblem p → IsAt p path s → IsAt p (path ++ row ∷ []) t → blocking s ≤ 1 + blocking t
blocking_path p path row s t is a b =
    let l = last_shift (start p) t b.moves path row b.runs b.by_path in
    let e : s ≡ l.before = grown_run p path row s t is a b l in
    let sound : IsSound l.before = sound_runs (start p) l.first l.before (sound_start p is) l.to_it in
    let sound' : IsSound l.after = sound_shifted l.before l.from row l.after sound l.shift in
    omega (arith, ap blocking e, blocking_falls l.before l.from row l.after sound l.shift, blocking_runs l.after l.takes t sound' l.from_it, no_path l.takes l.all_takes)
