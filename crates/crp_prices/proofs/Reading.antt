-- The jobs of a history can be taken out of the jobs of its position, one after the other.
use Rattle.std.proofs.Common.{◌≡◌, ℕ, ◌<◌, ◌≤◌, Bool, true, false, List, [], ◌∷◌, Some, slice_get, refl, sym, ap, ◌∙◌, subst, ◌⊎◌, inl, inr, ⊎_elim, arith}
use Rattle.std.specs.Bool.{⊤}
use Rattle.std.specs.List.{AllByRecursion}
use Rattle.std.proofs.lemmas.Option.{same_Some}
use Rattle.std.proofs.lemmas.Bool.{cases_Bool, cases_lt, cases_eq}
use Rattle.crp_plan.specs.Bay.{Position, IsSound}
use Rattle.crp_prices.specs.declared.job.Job.{Job}
use Rattle.crp_prices.specs.Prices.{IsFirst, IsLater, IsJob, ComesBefore, AreInOrder, IsHistory, earned, IsMost}
use Rattle.crp_prices.proofs.Clear.{IsClear, clear}
use Rattle.crp_prices.proofs.Jobs.{not_both}
use Rattle.crp_prices.specs.declared.job.MarkedJob.{MarkedJob}
use Rattle.crp_prices.specs.Pass.{job_of, Has, IsReadBefore, AreRead, AreJobs, row_pass}
use Rattle.crp_prices.proofs.Growing.{part_own}
use Rattle.crp_prices.proofs.Taking.{Picks}
use Rattle.crp_prices.proofs.Worth.{marked_as, Allow, earned_worth}

-- a job that is read before a job may still come after it, only as a later job of the turn of that later job, and of a greater rank
not_after : (s : Position) (x : MarkedJob) (j : Job) (later : Bool) → IsClear s → (x.is_later ≡ true → IsLater s (job_of x)) → (later ≡ false → IsFirst s j) →
    IsReadBefore s x (marked_as j later) → ComesBefore s j (job_of x) → (((later ≡ true) × (x.turn ≡ j.turn) × (j.rank < x.rank)) → ⊥) → ⊥
not_after s x j later is marked first b c none = ⊎_elim
    (λ lt. ⊎_elim (λ back. omega arith) (λ p. let same : x.turn ≡ j.turn = p.0 in omega arith) b)
    (λ q.
    let e : j.turn ≡ x.turn = q.0 in
    ⊎_elim
    (λ back. omega arith)
    (λ p. ⊎_elim
    (λ l. ⊎_elim
    (λ t. none (t, p.0, l.1 t))
    (λ f. not_both s (job_of x) is (marked l.0) (let r = q.2 (first f) in r.0))
    (cases_Bool later))
    (λ f. f.2 (let r = q.2 (first f.1) in r.1))
    p.1)
    b)
    c

-- whether it may stay
may_stay : (x : MarkedJob) (j : Job) (later : Bool) → ((later ≡ true) × (x.turn ≡ j.turn) × (j.rank < x.rank)) ⊎ (((later ≡ true) × (x.turn ≡ j.turn) × (j.rank < x.rank)) → ⊥)
may_stay x j later = ⊎_elim
    (λ t. ⊎_elim
    (λ e. ⊎_elim (λ lt. inl (t, e, lt)) (λ ge. inr (λ a. let lt : j.rank < x.rank = a.2 in omega arith)) (cases_lt j.rank x.rank))
    (λ ne. inr (λ a. ne a.1))
    (cases_eq x.turn j.turn))
    (λ f. inr (λ a. let both : true ≡ false = sym a.0 ∙ f in cc))
    (cases_Bool later)

-- what is left of jobs after a job
record Left (s : Position) (j : Job) (later : Bool) (jobs : List MarkedJob) : Type 0 where
  rest : List MarkedJob
  picks : Picks (marked_as j later) jobs rest
  keeps : (i : MarkedJob) → Has i jobs → ComesBefore s j (job_of i) → Has i rest
  within : (i : MarkedJob) → Has i rest → Has i jobs
  read : AreRead s rest

left_by : (s : Position) (j : Job) (later : Bool) → IsClear s → (later ≡ false → IsFirst s j) → (jobs : List MarkedJob) → AreRead s jobs →
    ((x : MarkedJob) → Has x jobs → x.is_later ≡ true → IsLater s (job_of x)) → Has (marked_as j later) jobs → Left s j later jobs
left_by s j later is first [] r marked h = absurd h
left_by s j later is first (x ∷ jobs) r marked h = ⊎_elim
    (λ e. record {
      rest = jobs;
      picks = inl (e, refl);
      keeps = λ i has c. ⊎_elim (λ e'. absurd (own i (sym e' ∙ e) c)) (λ o. o) has;
      within = λ i has. inr has;
      read = r.1;
    })
    (λ o.
    let l : Left s j later jobs = left_by s j later is first jobs r.1 (λ y has. marked y (inr has)) o in
    ⊎_elim
    (λ stay. record {
      rest = x ∷ l.rest;
      picks = inr (inr (l.rest, refl, l.picks, stay.2, stay.1, stay.0));
      keeps = λ i has c. ⊎_elim (λ e. inl e) (λ in_rest. inr (l.keeps i in_rest c)) has;
      within = λ i has. ⊎_elim (λ e. inl e) (λ in_rest. inr (l.within i in_rest)) has;
      read = (λ y has. r.0 y (l.within y has), l.read);
    })
    (λ leave. record {
      rest = l.rest;
      picks = inr (inl l.picks);
      keeps = λ i has c. ⊎_elim
          (λ e. absurd (not_after s x j later is (marked x (inl refl)) first (r.0 (marked_as j later) o) (subst (λ y. ComesBefore s j (job_of y)) (sym e) c) leave))
          (λ in_rest. l.keeps i in_rest c)
          has;
      within = λ i has. inr (l.within i has);
      read = l.read;
    })
    (may_stay x j later))
    h
  where
    own : (i : MarkedJob) → i ≡ marked_as j later → ComesBefore s j (job_of i) → ⊥
    own i e c =
        let t : i.turn ≡ j.turn = ap (λ (y : MarkedJob). y.turn) e in
        let k : i.rank ≡ j.rank = ap (λ (y : MarkedJob). y.rank) e in
        ⊎_elim (λ lt. omega arith) (λ p. p.1 (sym k)) c

-- whether a job is a later one
mark : (s : Position) (j : Job) → IsJob s j → Bool
mark s j (inl f) = false
mark s j (inr l) = true

mark_first : (s : Position) (j : Job) (k : IsJob s j) → mark s j k ≡ false → IsFirst s j
unfolding mark
mark_first s j (inl f) e = f
mark_first s j (inr l) e = cc

-- all jobs of a history are on the list, as they are marked
abbrev AreHad : (s : Position) → (history : List Job) → AllByRecursion (IsJob s) history → List MarkedJob → Type 0
AreHad s [] k jobs = ⊤
AreHad s (j ∷ history) k jobs = Has (marked_as j (mark s j k.0)) jobs × AreHad s history k.1 jobs

all_had : (s : Position) (jobs : List MarkedJob) → AreJobs s jobs → (history : List Job) → (k : AllByRecursion (IsJob s) history) → AreHad s history k jobs
unfolding mark
all_had s jobs a [] k = tt
all_had s jobs a (j ∷ history) k = (one k.0, all_had s jobs a history k.1)
  where
    one : (i : IsJob s j) → Has (marked_as j (mark s j i)) jobs
    one (inl f) = a.first j f
    one (inr l) = a.later j l

still_had : (s : Position) (j : Job) (jobs rest : List MarkedJob) → ((i : MarkedJob) → Has i jobs → ComesBefore s j (job_of i) → Has i rest) → (history : List Job) →
    (k : AllByRecursion (IsJob s) history) → AllByRecursion (ComesBefore s j) history → AreHad s history k jobs → AreHad s history k rest
still_had s j jobs rest keeps [] k c h = tt
still_had s j jobs rest keeps (i ∷ history) k c h = (keeps (marked_as i (mark s i k.0)) h.0 c.0, still_had s j jobs rest keeps history k.1 c.1 h.1)

-- the first job is not before this turn
abbrev IsLateFrom : ℕ → List Job → Type 0
IsLateFrom from [] = ⊤
IsLateFrom from (j ∷ history) = from ≤ j.turn

late_after : (s : Position) (j : Job) (history : List Job) → AllByRecursion (ComesBefore s j) history → IsLateFrom j.turn history
late_after s j [] c = tt
late_after s j (i ∷ history) c = ⊎_elim (λ lt. omega arith) (λ p. let e : j.turn ≡ i.turn = p.0 in omega arith) c.0

turn_soon : (s : Position) (j : Job) → IsJob s j → (j.turn < j.rank) × (j.turn ≤ s.ordered)
turn_soon s j k = ⊎_elim
    (λ f. (f.is_lower, f.is_ordered))
    (λ l.
    let le : j.turn ≤ s.ordered = l.is_ordered in
    (⊎_elim (λ lt. omega arith) (λ ge. l.soon ge) (cases_lt s.ordered j.rank), le))
    k

allowed : (s : Position) → IsClear s → (history : List Job) (k : AllByRecursion (IsJob s) history) → AreInOrder s history → (jobs : List MarkedJob) → AreRead s jobs →
    ((x : MarkedJob) → Has x jobs → x.is_later ≡ true → IsLater s (job_of x)) → AreHad s history k jobs → (from : ℕ) → IsLateFrom from history → Allow s.ordered from jobs history
allowed s is [] k o jobs r marked h from late = tt
allowed s is (j ∷ history) k o jobs r marked h from late =
    let l : Left s j (mark s j k.0) jobs = left_by s j (mark s j k.0) is (mark_first s j k.0) jobs r marked h.0 in
    let t = turn_soon s j k.0 in (
      mark s j k.0,
      l.rest,
      l.picks,
      late,
      t.0,
      t.1,
      allowed s is history k.1 o.1 l.rest l.read (λ x has. marked x (l.within x has)) (still_had s j jobs l.rest l.keeps history k.1 o.0 h.1) j.turn (late_after s j history o.0),
    )

late_zero : (history : List Job) → IsLateFrom 0 history
late_zero [] = tt
late_zero (j ∷ history) = omega arith

-- no history of the row earns more than the pass
pub most : (price : ℕ → ℕ → ℕ) (unit : ℕ) (s : Position) (jobs : List MarkedJob) (row height : ℕ) (stack : List ℕ) → IsSound s → AreJobs s jobs →
    slice_get s.heights row ≡ Some height → slice_get s.stacks row ≡ Some stack → IsMost price unit s row (row_pass price unit s.ordered jobs height stack)
most price unit s jobs row height stack sound a limit stands height' stack' history limit' stands' h =
    let hs : height' ≡ height = same_Some height' height (sym limit' ∙ limit) in
    let ss : stack' ≡ stack = same_Some stack' stack (sym stands' ∙ stands) in
    let there : IsHistory s height stack history = subst (λ l. IsHistory s height l history) ss (subst (λ n. IsHistory s n stack' history) hs h) in
    let allow = allowed s (clear s sound) history there.jobs there.in_order jobs a.in_order a.is_later (all_had s jobs a history there.jobs) 0 (late_zero history) in
    omega (arith, ap (λ l. earned price unit s.ordered l history) ss, earned_worth price unit s.ordered jobs height history stack 0 jobs allow there.each_open (part_own jobs))
