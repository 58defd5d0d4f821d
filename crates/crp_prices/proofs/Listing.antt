-- Turns and jobs, one more at a time.
use Rattle.std.proofs.Common.{◌≡◌, ℕ, zero, suc, ◌+◌, ◌-◌, ◌^◌, ◌<◌, ◌≤◌, min, Bool, true, false, ◌==◌, ◌&&◌, nat_lt, List, [], ◌∷◌, ◌++◌, length, take, drop, Some, slice_get, slice_index_or, refl, sym, ap, ◌∙◌, ⊎_elim, arith, append_assoc, append-nil, length-append}
use Rattle.std.specs.Prelude.{if◌then◌else◌}
use Rattle.std.proofs.Math.Seq.{drop-cons}
use Rattle.std.proofs.lemmas.List.{take_more}
use Rattle.std.proofs.lemmas.Option.{slice_get_within, get_or_from_slice_get}
use Rattle.std.proofs.lemmas.Bool.{cases_Bool, cases_lt}
use Rattle.crp_plan.specs.Rows.{holds, occurrences}
use Rattle.crp_plan.specs.declared.moves.Move.{Move}
use Rattle.crp_plan.specs.declared.moves.Move.TheVariants.{Shift, Take}
use Rattle.crp_plan.specs.Bay.{Position, start, Runs, IsTaken, IsShifted}
use Rattle.crp_plan.proofs.Sound.{apart, occurrences_taken, occurrences_shifted}
use Rattle.crp_bay.specs.Reached.{IsReached}
use Rattle.crp_bay.proofs.Begun.{few_ranks}
use Rattle.crp_bay.specs.Positions.{place}
use Rattle.crp_prices.specs.Prices.{IsFirst, IsLater, least_of}
use Rattle.crp_prices.specs.declared.job.MarkedJob.{MarkedJob}
use Rattle.crp_prices.specs.Pass.{job_of, AreRead, AreJobs}
use Rattle.crp_prices.specs.Columns.{AreRising}
use Rattle.crp_prices.specs.Tables.{AreReadable}
use Rattle.crp_prices.specs.AllJobs.{turn_in, turn_among, turn_of, later_jobs, first_jobs, holder, turn_jobs, jobs_in}
use Rattle.crp_prices.proofs.Complete.{own_stands}

least_push : (ordered c : ℕ) (xs : List ℕ) → least_of ordered (xs ++ c ∷ []) ≡ min (least_of ordered xs) c
least_push ordered c [] = omega arith
least_push ordered c (x ∷ xs) = omega (arith, least_push ordered c xs)

-- one more container of a stack
pub least_step : (ordered i d : ℕ) (stack : List ℕ) → i < length stack → least_of ordered (take (i + 1) stack) ≡ min (least_of ordered (take i stack)) (slice_index_or stack i d)
least_step ordered i d stack lt = ap (least_of ordered) (take_more stack i d lt) ∙ least_push ordered (slice_index_or stack i d) (take i stack)

pub turn_step : (ordered rank i d : ℕ) (stack : List ℕ) → i < length stack → (slice_index_or stack i d == rank) && nat_lt (least_of ordered (take i stack)) rank ≡ false →
    turn_in ordered rank (take (i + 1) stack) (drop (i + 1) stack) ≡ turn_in ordered rank (take i stack) (drop i stack)
turn_step ordered rank i d stack lt none =
    let next : i + 1 ≡ suc i = omega arith in
    let pass : turn_in ordered rank (take i stack) (slice_index_or stack i d ∷ drop (suc i) stack) ≡ turn_in ordered rank (take i stack ++ slice_index_or stack i d ∷ []) (drop (suc i) stack) = rw none refl in
    ap (λ n. turn_in ordered rank (take (i + 1) stack) (drop n stack)) next
    ∙ ap (λ l. turn_in ordered rank l (drop (suc i) stack)) (take_more stack i d lt)
    ∙ sym pass
    ∙ ap (turn_in ordered rank (take i stack)) (sym (drop-cons stack i d lt))

-- one more stack
pub among_most : (ordered r : ℕ) (stacks : List (List ℕ)) → turn_among ordered r stacks ≤ suc ordered
among_most ordered r [] = omega arith
among_most ordered r (stack ∷ stacks) = omega (arith, among_most ordered r stacks)

pub among_step : (ordered r i : ℕ) (stacks : List (List ℕ)) (stack : List ℕ) → slice_get stacks i ≡ Some stack →
    turn_among ordered r (drop i stacks) ≡ min (turn_in ordered r [] stack) (turn_among ordered r (drop (i + 1) stacks))
among_step ordered r i stacks stack here =
    let next : i + 1 ≡ suc i = omega arith in
    let split : drop i stacks ≡ stack ∷ drop (suc i) stacks =
    drop-cons stacks i stack (slice_get_within stacks i stack here) ∙ ap (λ l. l ∷ drop (suc i) stacks) (get_or_from_slice_get stacks i stack stack here) in
    ap (turn_among ordered r) split ∙ ap (λ n. min (turn_in ordered r [] stack) (turn_among ordered r (drop n stacks))) (sym next)

-- one more rank
pub later_step : (s : Position) (turn rank known : ℕ) → 1 ≤ rank → known ≡ turn_of s rank →
    later_jobs s turn rank ≡ (if nat_lt known turn && nat_lt turn rank then record { rank = rank; turn = turn; is_later = true } ∷ [] else []) ++ later_jobs s turn (rank - 1)
later_step s turn zero known some k = absurd (omega arith)
later_step s turn (suc r) known some k =
    let e : suc r - 1 ≡ r = omega arith in
    ap (λ n. (if nat_lt n turn && nat_lt turn (suc r) then record { rank = suc r; turn = turn; is_later = true } ∷ [] else []) ++ later_jobs s turn r) (sym k)
    ∙ ap (λ n. (if nat_lt known turn && nat_lt turn (suc r) then record { rank = suc r; turn = turn; is_later = true } ∷ [] else []) ++ later_jobs s turn n) (sym e)

-- the stack of a turn is the holder
pub holder_place : (x : ℕ) (stacks : List (List ℕ)) (stack : List ℕ) → slice_get stacks (place x stacks) ≡ Some stack → holder x stacks ≡ stack
holder_place x [] stack here = cc
holder_place x (top ∷ stacks) stack here = ⊎_elim
    (λ t.
    let a : place x (top ∷ stacks) ≡ 0 = rw t refl in
    let b : holder x (top ∷ stacks) ≡ top = rw t refl in
    let c : slice_get (top ∷ stacks) 0 ≡ Some stack = ap (slice_get (top ∷ stacks)) (sym a) ∙ here in
    let d : top ≡ stack = cc in
    b ∙ d)
    (λ f.
    let a : place x (top ∷ stacks) ≡ suc (place x stacks) = rw f refl in
    let b : holder x (top ∷ stacks) ≡ holder x stacks = rw f refl in
    b ∙ holder_place x stacks stack (ap (slice_get (top ∷ stacks)) (sym a) ∙ here))
    (cases_Bool (holds x top))

-- one more turn
pub in_step : (s : Position) (most turn : ℕ) → turn ≤ s.ordered → jobs_in s most turn (suc s.ordered - turn) ≡ turn_jobs s most turn ++ jobs_in s most (turn + 1) (suc s.ordered - (turn + 1))
in_step s most turn le =
    let a : suc s.ordered - turn ≡ suc (suc s.ordered - (turn + 1)) = omega arith in
    let b : turn + 1 ≡ suc turn = omega arith in
    ap (jobs_in s most turn) a ∙ ap (λ n. turn_jobs s most turn ++ jobs_in s most n (suc s.ordered - (turn + 1))) (sym b)

pub turn_added : (s : Position) (most turn : ℕ) (stack : List ℕ) (items with_later with_first whole : List MarkedJob) → turn ≤ s.ordered → with_later ≡ items ++ later_jobs s turn most →
    with_first ≡ with_later ++ first_jobs s.ordered turn [] stack → holder turn s.stacks ≡ stack → items ++ jobs_in s most turn (suc s.ordered - turn) ≡ whole →
    with_first ++ jobs_in s most (turn + 1) (suc s.ordered - (turn + 1)) ≡ whole
turn_added s most turn stack items with_later with_first whole le later first held before =
    let rest : List MarkedJob = jobs_in s most (turn + 1) (suc s.ordered - (turn + 1)) in
    let own : with_first ≡ items ++ turn_jobs s most turn =
    first
    ∙ ap (λ l. l ++ first_jobs s.ordered turn [] stack) later
    ∙ append_assoc items (later_jobs s turn most) (first_jobs s.ordered turn [] stack)
    ∙ ap (λ l. items ++ (later_jobs s turn most ++ first_jobs s.ordered turn [] l)) (sym held) in
    ap (λ l. l ++ rest) own ∙ append_assoc items (turn_jobs s most turn) rest ∙ ap (λ l. items ++ l) (sym (in_step s most turn le)) ∙ before

-- at the end no turn is left
pub turns_done : (s : Position) (most turn : ℕ) (items whole : List MarkedJob) → s.ordered < turn → items ++ jobs_in s most turn (suc s.ordered - turn) ≡ whole → items ≡ whole
turns_done s most turn items whole lt before =
    let none : suc s.ordered - turn ≡ 0 = omega arith in
    sym (append-nil items) ∙ ap (λ n. items ++ jobs_in s most turn n) (sym none) ∙ before

-- no rank above 96 stands in a reached position
fewer_after : (x : ℕ) (s t : Position) (moves : List Move) → Runs s moves t → occurrences x t.stacks ≤ occurrences x s.stacks
fewer_after x s t [] r = omega (arith, ap (λ (v : Position). occurrences x v.stacks) r)
fewer_after x s t (Shift from to ∷ moves) r =
    let k : IsShifted s from to r.0 = r.1 in
    omega (
      arith,
      fewer_after x r.0 t moves r.2,
      ap (λ (v : Position). occurrences x v.stacks) k.after,
      occurrences_shifted x k.moved s.stacks (from - 1) (to - 1) k.rest k.onto (apart from to k.from_counts k.to_counts k.another) k.stack k.target,
    )
fewer_after x s t (Take row ∷ moves) r =
    let k : IsTaken s row r.0 = r.1 in
    omega (
      arith,
      fewer_after x r.0 t moves r.2,
      ap (λ (v : Position). occurrences x v.stacks) k.after,
      occurrences_taken x s.next s.stacks (row - 1) k.rest k.stack,
    )

pub few_stand : (s : Position) → IsReached s → (x : ℕ) → 1 ≤ occurrences x s.stacks → x ≤ 96
few_stand s r x some = few_ranks r.problem r.is_problem x (omega (arith, fewer_after x (start r.problem) s r.is_at.moves r.is_at.runs))

-- a turn adds few jobs
few_later : (s : Position) (turn most : ℕ) → length (later_jobs s turn most) ≤ most
few_later s turn zero = omega arith
few_later s turn (suc r) = ⊎_elim
    (λ t. omega (arith, ap length (one t), few_later s turn r))
    (λ f. omega (arith, ap length (none f), few_later s turn r))
    (cases_Bool (nat_lt (turn_of s (suc r)) turn && nat_lt turn (suc r)))
  where
    one : nat_lt (turn_of s (suc r)) turn && nat_lt turn (suc r) ≡ true → later_jobs s turn (suc r) ≡ record { rank = suc r; turn = turn; is_later = true } ∷ later_jobs s turn r
    one t = rw t refl

    none : nat_lt (turn_of s (suc r)) turn && nat_lt turn (suc r) ≡ false → later_jobs s turn (suc r) ≡ later_jobs s turn r
    none f = rw f refl

few_first : (ordered turn : ℕ) (under stack : List ℕ) → length (first_jobs ordered turn under stack) ≤ length stack
few_first ordered turn under [] = omega arith
few_first ordered turn under (c ∷ stack) = omega (
  arith,
  few_first ordered turn (under ++ c ∷ []) stack,
  length-append (first_jobs ordered turn (under ++ c ∷ []) stack) (if (least_of ordered under == turn) && nat_lt turn c then record { rank = c; turn = turn; is_later = false } ∷ [] else []),
  one_most ((least_of ordered under == turn) && nat_lt turn c) (record { rank = c; turn = turn; is_later = false }),
)
  where
    one_most : (b : Bool) (x : MarkedJob) → length (if b then x ∷ [] else []) ≤ 1
    one_most true x = omega arith
    one_most false x = omega arith

pub few_added : (s : Position) (most turn : ℕ) (stack : List ℕ) (ordered : ℕ) (items with_later with_first : List MarkedJob) → with_later ≡ items ++ later_jobs s turn most →
    with_first ≡ with_later ++ first_jobs ordered turn [] stack → length with_first ≤ length items + (most + length stack)
few_added s most turn stack ordered items with_later with_first later first = omega (
  arith,
  ap length later,
  ap length first,
  length-append items (later_jobs s turn most),
  length-append with_later (first_jobs ordered turn [] stack),
  few_later s turn most,
  few_first ordered turn [] stack,
)

-- the turns of jobs in their order never fall
pub rising_read : (s : Position) (jobs : List MarkedJob) → AreRead s jobs → AreRising jobs
rising_read s [] r = tt
rising_read s (x ∷ jobs) r = (λ y has. ⊎_elim (λ lt. omega arith) (λ p. let e : x.turn ≡ y.turn = p.0 in omega arith) (r.0 y has), rising_read s jobs r.1)

-- jobs of a position can be read
pub readable : (s : Position) (jobs : List MarkedJob) → IsReached s → AreJobs s jobs → length jobs ≤ 2 ^ 20 → AreReadable jobs
readable s jobs r a few = record {
  few = few;
  rising = rising_read s jobs a.in_order;
  soon = λ x has. ⊎_elim
      (λ t.
      let l : IsLater s (job_of x) = a.is_later x has t in
      let le : x.turn ≤ s.ordered = l.is_ordered in
      ⊎_elim (λ lt. omega arith) (λ ge. l.soon ge) (cases_lt s.ordered x.rank))
      (λ f. let k : IsFirst s (job_of x) = a.is_first x has f in k.is_lower)
      (cases_Bool x.is_later);
  ranks = λ x has. ⊎_elim
      (λ t.
      let l : IsLater s (job_of x) = a.is_later x has t in
      few_stand s r x.rank (own_stands s (record { rank = x.rank; turn = l.first }) l.blocks))
      (λ f. few_stand s r x.rank (own_stands s (job_of x) (a.is_first x has f)))
      (cases_Bool x.is_later);
}
