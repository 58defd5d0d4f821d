-- The bound falls by one unit at most at a relocation, and not at all at a take.
use Rattle.std.proofs.Common.{◌≡◌, ◌≢◌, ℕ, zero, suc, ◌+◌, ◌-◌, ◌<◌, ◌≤◌, true, not, ◌&&◌, nat_lt, List, [], ◌∷◌, ◌++◌, length, Some, slice_get, slice_set, sum, refl, sym, ap, ◌∙◌, subst, inl, inr, ⊎_elim, arith}
use Rattle.std.specs.List.{AllByRecursion}
use Rattle.std.proofs.lemmas.List.{length-set}
use Rattle.std.proofs.lemmas.Option.{same_Some, slice_get_within}
use Rattle.std.proofs.lemmas.Bool.{cases_eq, and_from, lt-ltb, not_from_false, false_from_ne_true}
use Rattle.crp_plan.specs.Rows.{holds}
use Rattle.crp_plan.specs.Bay.{Position, IsTaken, IsShifted}
use Rattle.crp_plan.proofs.Lists.{times, sum_put, at_le_sum, times_held, get_put_same, get_put_other}
use Rattle.crp_plan.proofs.Determined.{same_row, times_under}
use Rattle.crp_bounds.proofs.Cutting.{times-append}
use Rattle.crp_prices.specs.declared.job.Job.{Job}
use Rattle.crp_prices.specs.Prices.{StandsOn, IsFirst, IsJob, StandsAbove, ComesBefore, standing_at, is_open, AreOpen, IsHistory, earns_on, earned, IsMost, AreMost}
use Rattle.crp_prices.proofs.Clear.{IsClear}
use Rattle.crp_prices.proofs.Standing.{split_first, holds_own}
use Rattle.crp_prices.proofs.Playing.{standing_first, Agree, open_same, earned_same, agree_lifted, agree_taken}
use Rattle.crp_prices.proofs.Jobs.{first_late, job_late, made, Moves, first_back, jobs_back, order_back, stacks_shifted, put, onto_after, moved_first, moved_later, next_elsewhere, shift_moves, left, take_moves}

-- the job that a shift is
abbrev pub shift_job : (s : Position) (from to : ℕ) (t : Position) → IsShifted s from to t → Job
shift_job s from to t k = record { rank = k.moved; turn = s.next }

-- what it earns on the row that it goes to
abbrev pub shift_earns : (price : ℕ → ℕ → ℕ) (unit : ℕ) (s : Position) (from to : ℕ) (t : Position) → IsShifted s from to t → ℕ
shift_earns price unit s from to t k = earns_on price unit s.ordered k.onto (shift_job s from to t k)

-- a history of a row after a move was one before it, where the same stood in the turn of its first job
history_back : (s : Position) (n : ℕ) (stacks : List (List ℕ)) (x : ℕ) → Moves s n stacks x → (height : ℕ) (y z : List ℕ) (history : List Job) →
    IsHistory (made s n stacks) height y history → Agree y z history → IsHistory s height z history
history_back s n stacks x m height y z history h e = record {
  jobs = jobs_back s n stacks x m history h.jobs;
  in_order = order_back s n stacks x m history h.jobs h.in_order;
  each_open = open_same height y z history e h.each_open;
}

-- so no more is earned there after the move
most_back : (price : ℕ → ℕ → ℕ) (unit : ℕ) (s : Position) (n : ℕ) (stacks : List (List ℕ)) (x : ℕ) → Moves s n stacks x → (row most : ℕ) → IsMost price unit s row most →
    ((height : ℕ) (y : List ℕ) (history : List Job) → slice_get stacks row ≡ Some y → IsHistory (made s n stacks) height y history →
    (z : List ℕ) × (slice_get s.stacks row ≡ Some z) × Agree y z history) → IsMost price unit (made s n stacks) row most
most_back price unit s n stacks x m row most is same height y history hh hy h =
    let r = same height y history hy h in
    omega (arith, earned_same price unit s.ordered y r.0 history r.2, is height r.0 history hh r.1 (history_back s n stacks x m height y r.0 history h r.2))

-- the turns of jobs of a history
late_jobs : (s : Position) → IsClear s → (history : List Job) → AllByRecursion (IsJob s) history → (j : Job) (more : List Job) → history ≡ j ∷ more → s.next ≤ j.turn
late_jobs s sound [] jobs j more e = cc
late_jobs s sound (i ∷ history) jobs j more e =
    let same : i ≡ j = cc in
    omega (arith, job_late s i sound jobs.0, ap (λ (a : Job). a.turn) same)

-- after a take each row earns what it earned
pub most_left : (price : ℕ → ℕ → ℕ) (unit : ℕ) (s : Position) (row : ℕ) (t : Position) → IsClear s → (k : IsTaken s row t) → (i m : ℕ) → IsMost price unit s i m → IsMost price unit (left s row t k) i m
most_left price unit s row t sound k i m is =
    most_back price unit s (suc s.next) (slice_set s.stacks (row - 1) k.rest) s.next moves i m is (λ height y history hy h. ⊎_elim
    (λ e.
    let y_is : y ≡ k.rest = same_Some y k.rest (sym hy ∙ ap (slice_get (slice_set s.stacks (row - 1) k.rest)) e ∙ get_put_same s.stacks (row - 1) (k.rest ++ s.next ∷ []) k.rest k.stack) in (
      k.rest ++ s.next ∷ [],
      ap (slice_get s.stacks) e ∙ k.stack,
      subst (λ l. Agree l (k.rest ++ s.next ∷ []) history) (sym y_is) (agree_taken s.next k.rest history (λ j more f. omega (arith, late_jobs (left s row t k) moves.after history h.jobs j more f))),
    ))
    (λ ne. (y, sym (get_put_other s.stacks (row - 1) i k.rest ne) ∙ hy, agree_own y history))
    (cases_eq i (row - 1)))
  where
    moves : Moves s (suc s.next) (slice_set s.stacks (row - 1) k.rest) s.next
    moves = take_moves s row t sound k

    agree_own : (y : List ℕ) (history : List Job) → Agree y y history
    agree_own y [] = tt
    agree_own y (j ∷ history) = refl

pub most_taken : (price : ℕ → ℕ → ℕ) (unit : ℕ) (s : Position) (row : ℕ) (t : Position) → IsClear s → (k : IsTaken s row t) → (mosts : List ℕ) → AreMost price unit s mosts →
    AreMost price unit (left s row t k) mosts
most_taken price unit s row t sound k mosts a = record {
  each_row = omega (arith, a.each_row, length-set s.stacks (row - 1) k.rest);
  most = λ i m here. most_left price unit s row t sound k i m (a.most i m here);
}

-- the job of a shift comes before each job of after
shift_before : (s : Position) (from to : ℕ) (t : Position) → IsClear s → (k : IsShifted s from to t) → (d : Job) → IsJob (put s from to t k) d → ComesBefore s (shift_job s from to t k) d
shift_before s from to t sound k d job = ⊎_elim
    (λ e. inr (e, differ e, λ f. (first e, above (first e) e)))
    (λ ne. inl (omega (arith, job_late (put s from to t k) d m.after job)))
    (cases_eq s.next d.turn)
  where
    m : Moves s s.next (stacks_shifted s from to t k) k.moved
    m = shift_moves s from to t sound k

    differ : s.next ≡ d.turn → k.moved ≢ d.rank
    differ e same = omega (arith, moved_later s from to t sound k d (sym same) job)

    first : s.next ≡ d.turn → IsFirst s d
    first e = first_back s s.next (stacks_shifted s from to t k) k.moved m d (λ same. differ e (sym same)) (⊎_elim
        (λ f. f)
        (λ l. let lt : l.first < d.turn = l.later in absurd (omega (arith, first_late (put s from to t k) (record { rank = d.rank; turn = l.first }) m.after l.blocks)))
        job)

    above : IsFirst s d → s.next ≡ d.turn → StandsAbove s k.moved d.rank
    above f e =
        let st : StandsOn s.stacks f.beneath d.rank = f.stands in
        let held : holds s.next f.beneath ≡ true = ap (λ y. holds y f.beneath) e ∙ f.turn_stands in
        let some : 1 ≤ times s.next (f.beneath ++ d.rank ∷ st.over) = omega (arith, times-append s.next f.beneath (d.rank ∷ st.over), times_held s.next f.beneath held) in
        let row : st.row ≡ from - 1 = same_row s.next s.stacks st.row (from - 1) (f.beneath ++ d.rank ∷ st.over) (k.rest ++ k.moved ∷ []) (sound.once s.next) st.stands k.stack some
        (times_under s.next k.moved k.rest k.buried) in
        let same : f.beneath ++ d.rank ∷ st.over ≡ k.rest ++ k.moved ∷ [] =
        same_Some (f.beneath ++ d.rank ∷ st.over) (k.rest ++ k.moved ∷ []) (sym st.stands ∙ ap (slice_get s.stacks) row ∙ k.stack) in
        let part = split_first f.beneath st.over k.rest d.rank k.moved same (λ h. differ e (sym h)) in
        record {
          beneath = k.rest;
          stands = record { row = from - 1; over = []; stands = k.stack };
          held = ap (holds d.rank) part.1 ∙ holds_own f.beneath d.rank part.0;
        }

before_all : (s : Position) (from to : ℕ) (t : Position) → IsClear s → (k : IsShifted s from to t) → (history : List Job) → AllByRecursion (IsJob (put s from to t k)) history →
    AllByRecursion (ComesBefore s (shift_job s from to t k)) history
before_all s from to t sound k [] jobs = tt
before_all s from to t sound k (d ∷ history) jobs = (shift_before s from to t sound k d jobs.0, before_all s from to t sound k history jobs.1)

-- all of the row that it goes to stands then
pub onto_stands : (s : Position) (from to : ℕ) (t : Position) → IsClear s → (k : IsShifted s from to t) → standing_at s.next k.onto ≡ k.onto
onto_stands s from to t sound k = standing_first s.next k.onto (λ x lt. omega (arith, sound.gone x lt, at_le_sum (times x) s.stacks (to - 1) k.onto k.target))

-- it is open to that row
shift_open : (s : Position) (from to : ℕ) (t : Position) → IsClear s → (k : IsShifted s from to t) → is_open k.height k.onto (shift_job s from to t k) ≡ true
shift_open s from to t sound k =
    ap (λ w. nat_lt (length w) k.height && not (holds s.next w)) (onto_stands s from to t sound k)
    ∙ and_from (nat_lt (length k.onto) k.height) (not (holds s.next k.onto)) (lt-ltb (length k.onto) k.height k.room)
    (not_from_false (holds s.next k.onto) (false_from_ne_true (holds s.next k.onto) (λ held. next_elsewhere s from to t sound k held)))

-- so it goes before each history that the row has after the shift
history_longer : (s : Position) (from to : ℕ) (t : Position) → IsClear s → (k : IsShifted s from to t) → (history : List Job) →
    IsHistory (put s from to t k) k.height (k.onto ++ k.moved ∷ []) history → IsHistory s k.height k.onto (shift_job s from to t k ∷ history)
history_longer s from to t sound k history h =
    let m : Moves s s.next (stacks_shifted s from to t k) k.moved = shift_moves s from to t sound k in
    record {
      jobs = (inl (moved_first s from to t sound k), jobs_back s s.next (stacks_shifted s from to t k) k.moved m history h.jobs);
      in_order = (before_all s from to t sound k history h.jobs, order_back s s.next (stacks_shifted s from to t k) k.moved m history h.jobs h.in_order);
      each_open = (shift_open s from to t sound k, subst (λ w. AreOpen k.height (w ++ k.moved ∷ []) history) (sym (onto_stands s from to t sound k)) h.each_open);
    }

-- and what it earns comes to that
earned_longer : (price : ℕ → ℕ → ℕ) (unit : ℕ) (s : Position) (from to : ℕ) (t : Position) → IsClear s → (k : IsShifted s from to t) → (history : List Job) →
    earned price unit s.ordered k.onto (shift_job s from to t k ∷ history) ≡ shift_earns price unit s from to t k + earned price unit s.ordered (k.onto ++ k.moved ∷ []) history
earned_longer price unit s from to t sound k history =
    ap (λ w. earns_on price unit s.ordered w (shift_job s from to t k) + earned price unit s.ordered (w ++ k.moved ∷ []) history) (onto_stands s from to t sound k)

-- after a shift the row that it goes to earns less by this
pub most_onto : (price : ℕ → ℕ → ℕ) (unit : ℕ) (s : Position) (from to : ℕ) (t : Position) → IsClear s → (k : IsShifted s from to t) → (most : ℕ) → IsMost price unit s (to - 1) most →
    IsMost price unit (put s from to t k) (to - 1) (most - shift_earns price unit s from to t k)
most_onto price unit s from to t sound k most is height y history hh hy h =
    let y_is : y ≡ k.onto ++ k.moved ∷ [] = same_Some y (k.onto ++ k.moved ∷ []) (sym hy ∙ onto_after s from to t k) in
    let h_is : height ≡ k.height = same_Some height k.height (sym hh ∙ k.limit) in
    let there : IsHistory (put s from to t k) k.height (k.onto ++ k.moved ∷ []) history =
    subst (λ l. IsHistory (put s from to t k) k.height l history) y_is (subst (λ n. IsHistory (put s from to t k) n y history) h_is h) in
    omega (
      arith,
      ap (λ l. earned price unit s.ordered l history) y_is,
      earned_longer price unit s from to t sound k history,
      is k.height k.onto (shift_job s from to t k ∷ history) k.limit k.target (history_longer s from to t sound k history there),
    )

-- and it did earn that
earns_most : (price : ℕ → ℕ → ℕ) (unit : ℕ) (s : Position) (from to : ℕ) (t : Position) → IsClear s → (k : IsShifted s from to t) → (most : ℕ) → IsMost price unit s (to - 1) most →
    shift_earns price unit s from to t k ≤ most
earns_most price unit s from to t sound k most is = omega (
  arith,
  earned_longer price unit s from to t sound k [],
  is k.height k.onto (shift_job s from to t k ∷ []) k.limit k.target (history_longer s from to t sound k [] (record { jobs = tt; in_order = tt; each_open = tt })),
)

-- each other row earns what it earned
pub most_other : (price : ℕ → ℕ → ℕ) (unit : ℕ) (s : Position) (from to : ℕ) (t : Position) → IsClear s → (k : IsShifted s from to t) → (row most : ℕ) → row ≢ to - 1 → IsMost price unit s row most →
    IsMost price unit (put s from to t k) row most
most_other price unit s from to t sound k row most ne is =
    most_back price unit s s.next (stacks_shifted s from to t k) k.moved moves row most is (λ height y history hy h.
    let still : slice_get (slice_set s.stacks (from - 1) k.rest) row ≡ Some y = sym (get_put_other (slice_set s.stacks (from - 1) k.rest) (to - 1) row (k.onto ++ k.moved ∷ []) ne) ∙ hy in
    ⊎_elim
    (λ e.
    let y_is : y ≡ k.rest = same_Some y k.rest (sym still ∙ ap (slice_get (slice_set s.stacks (from - 1) k.rest)) e ∙ get_put_same s.stacks (from - 1) (k.rest ++ k.moved ∷ []) k.rest k.stack) in
    let open_there : AreOpen height k.rest history = subst (λ l. AreOpen height l history) y_is h.each_open in (
      k.rest ++ k.moved ∷ [],
      ap (slice_get s.stacks) e ∙ k.stack,
      subst (λ l. Agree l (k.rest ++ k.moved ∷ []) history) (sym y_is) (agree_lifted s.next height k.moved k.rest history k.buried (late_jobs (put s from to t k) moves.after history h.jobs) open_there),
    ))
    (λ other. (y, sym (get_put_other s.stacks (from - 1) row k.rest other) ∙ still, agree_own y history))
    (cases_eq row (from - 1)))
  where
    moves : Moves s s.next (stacks_shifted s from to t k) k.moved
    moves = shift_moves s from to t sound k

    agree_own : (y : List ℕ) (history : List Job) → Agree y y history
    agree_own y [] = tt
    agree_own y (j ∷ history) = refl

-- the number at a place that is there
found : (xs : List ℕ) (i : ℕ) → i < length xs → (x : ℕ) × (slice_get xs i ≡ Some x)
found [] i lt = absurd (omega arith)
found (x ∷ xs) zero lt = (x, refl)
found (x ∷ xs) (suc i) lt = found xs i (omega arith)

-- these numbers after a shift: less at the row that it goes to
pub record Lowered (price : ℕ → ℕ → ℕ) (unit : ℕ) (u : Position) (mosts : List ℕ) (earns : ℕ) : Type 0 where
  pub after : List ℕ
  pub are : AreMost price unit u after
  pub less : sum after + earns ≡ sum mosts

pub most_shifted : (price : ℕ → ℕ → ℕ) (unit : ℕ) (s : Position) (from to : ℕ) (t : Position) → IsClear s → (k : IsShifted s from to t) → (mosts : List ℕ) → AreMost price unit s mosts →
    Lowered price unit (put s from to t k) mosts (shift_earns price unit s from to t k)
most_shifted price unit s from to t sound k mosts a =
    let e : ℕ = shift_earns price unit s from to t k in
    let there : to - 1 < length mosts = omega (arith, slice_get_within s.stacks (to - 1) k.onto k.target, a.each_row) in
    let m = found mosts (to - 1) there in
    let is : IsMost price unit s (to - 1) m.0 = a.most (to - 1) m.0 m.1 in
    record {
      after = slice_set mosts (to - 1) (m.0 - e);
      are = record {
        each_row = omega (
          arith,
          a.each_row,
          length-set mosts (to - 1) (m.0 - e),
          length-set s.stacks (from - 1) k.rest,
          length-set (slice_set s.stacks (from - 1) k.rest) (to - 1) (k.onto ++ k.moved ∷ []),
        );
        most = λ row n here. ⊎_elim
            (λ same.
            let n_is : n ≡ m.0 - e = same_Some n (m.0 - e) (sym here ∙ ap (slice_get (slice_set mosts (to - 1) (m.0 - e))) same ∙ get_put_same mosts (to - 1) m.0 (m.0 - e) m.1) in
            subst (λ i. IsMost price unit (put s from to t k) i n) (sym same) (subst (IsMost price unit (put s from to t k) (to - 1)) (sym n_is) (most_onto price unit s from to t sound k m.0 is)))
            (λ ne. most_other price unit s from to t sound k row n ne (a.most row n (sym (get_put_other mosts (to - 1) row (m.0 - e) ne) ∙ here)))
            (cases_eq row (to - 1));
      };
      less = omega (arith, sum_put (λ x. x) mosts (to - 1) m.0 (m.0 - e) m.1, earns_most price unit s from to t sound k m.0 is);
    }
