-- A statement and a list of rows have one first fault at most.
use Rattle.std.proofs.Common.{◌≡◌, ℕ, zero, suc, ◌-◌, ◌<◌, ◌≤◌, ⊎_elim, List, [], ◌∷◌, ◌++◌, length, take, drop, Some, slice_get, refl, sym, ap, ◌∙◌, subst, arith, take-append-drop}
use Rattle.std.proofs.lemmas.Option.{same_Some, slice_get_within}
use Rattle.std.proofs.lemmas.List.{take-take, take_all}
use Rattle.std.proofs.lemmas.Bool.{cases_lt}
use Rattle.crp_plan.specs.declared.problem.ProblemFault.{ProblemFault}
use Rattle.crp_plan.specs.declared.problem.ProblemFault.TheVariants.{Rows, Tiers, TooHigh, Ranks, Ordered}
use Rattle.crp_plan.specs.declared.plan.PlanFault.{PlanFault}
use Rattle.crp_plan.specs.declared.plan.PlanFault.TheVariants.{LeftOver, NoSuchRow, NotLegal, Incomplete}
use Rattle.crp_plan.specs.Bay.{Problem, IsProblem, start, Position, IsAt, IsFinished}
use Rattle.crp_plan.specs.Faults.{IsFirstFault, IsPlanFault, IsRow, LeadsTo}
use Rattle.crp_plan.proofs.Sound.{sound_start}
use Rattle.crp_plan.proofs.Paths.{same_at}
use Rattle.crp_plan.proofs.Covered.{passes}
use Rattle.crp_plan.proofs.Steps.{goes_by, row_there}

-- what is looked at earlier is right where a later fault is the first
pub one_problem_fault : (tiers ordered : ℕ) (stacks : List (List ℕ)) (f g : ProblemFault) → IsFirstFault tiers ordered stacks f → IsFirstFault tiers ordered stacks g → f ≡ g
one_problem_fault tiers ordered stacks Rows Rows a b = refl
one_problem_fault tiers ordered stacks Rows Tiers a b = absurd (a b.0)
one_problem_fault tiers ordered stacks Rows TooHigh a b = absurd (a b.0)
one_problem_fault tiers ordered stacks Rows Ranks a b = absurd (a b.0)
one_problem_fault tiers ordered stacks Rows Ordered a b = absurd (a b.0)
one_problem_fault tiers ordered stacks Tiers Rows a b = absurd (b a.0)
one_problem_fault tiers ordered stacks Tiers Tiers a b = refl
one_problem_fault tiers ordered stacks Tiers TooHigh a b = absurd (a.1 b.1)
one_problem_fault tiers ordered stacks Tiers Ranks a b = absurd (a.1 b.1)
one_problem_fault tiers ordered stacks Tiers Ordered a b = absurd (a.1 b.1)
one_problem_fault tiers ordered stacks TooHigh Rows a b = absurd (b a.0)
one_problem_fault tiers ordered stacks TooHigh Tiers a b = absurd (b.1 a.1)
one_problem_fault tiers ordered stacks TooHigh TooHigh a b = refl
one_problem_fault tiers ordered stacks TooHigh Ranks a b = absurd (a.2 b.2)
one_problem_fault tiers ordered stacks TooHigh Ordered a b = absurd (a.2 b.2)
one_problem_fault tiers ordered stacks Ranks Rows a b = absurd (b a.0)
one_problem_fault tiers ordered stacks Ranks Tiers a b = absurd (b.1 a.1)
one_problem_fault tiers ordered stacks Ranks TooHigh a b = absurd (b.2 a.2)
one_problem_fault tiers ordered stacks Ranks Ranks a b = refl
one_problem_fault tiers ordered stacks Ranks Ordered a b = absurd (a.3 b.3)
one_problem_fault tiers ordered stacks Ordered Rows a b = absurd (b a.0)
one_problem_fault tiers ordered stacks Ordered Tiers a b = absurd (b.1 a.1)
one_problem_fault tiers ordered stacks Ordered TooHigh a b = absurd (b.2 a.2)
one_problem_fault tiers ordered stacks Ordered Ranks a b = absurd (b.3 a.3)
one_problem_fault tiers ordered stacks Ordered Ordered a b = refl

-- where a path goes on there is a position before
pub at_front : (p : Problem) (path more whole : List ℕ) (t : Position) → IsProblem p → IsAt p whole t → whole ≡ path ++ more → (s : Position) × IsAt p path s
at_front p path more whole t is a e =
    let l = passes (start p) t a.moves path more (sound_start p is) a.runs a.no_take (a.by_path ∙ e) in
    (l.middle, record { moves = l.first; runs = l.to_it; by_path = l.by_path; no_take = l.no_take })

-- one more row
pub take_next : (rows : List ℕ) (i row : ℕ) → slice_get rows i ≡ Some row → take (suc i) rows ≡ take i rows ++ row ∷ []
take_next [] i row e = cc
take_next (x ∷ rows) zero row e = ap (λ y. y ∷ []) (same_Some x row e)
take_next (x ∷ rows) (suc i) row e = ap (λ l. x ∷ l) (take_next rows i row e)

-- so many rows are a path, and one more is none
pub record StopsAt (p : Problem) (rows : List ℕ) (n : ℕ) (s : Position) : Type 0 where
  pub within : n ≤ length rows
  pub here : IsAt p (take n rows) s
  pub no_further : n < length rows → (t : Position) → IsAt p (take (suc n) rows) t → ⊥

not_before : (p : Problem) (rows : List ℕ) (n m : ℕ) (s t : Position) → IsProblem p → StopsAt p rows n s → StopsAt p rows m t → n < m → ⊥
not_before p rows n m s t is a b lt =
    let inside = b.within in
    let small : suc n ≤ m = omega arith in
    let split : take m rows ≡ take (suc n) rows ++ drop (suc n) (take m rows) =
    sym (take-append-drop (suc n) (take m rows)) ∙ ap (λ l. l ++ drop (suc n) (take m rows)) (take-take (suc n) m rows small) in
    let front = at_front p (take (suc n) rows) (drop (suc n) (take m rows)) (take m rows) t is b.here split in
    a.no_further (omega arith) front.0 front.1

one_stop : (p : Problem) (rows : List ℕ) (n m : ℕ) (s t : Position) → IsProblem p → StopsAt p rows n s → StopsAt p rows m t → n ≡ m
one_stop p rows n m s t is a b =
    ⊎_elim
    (λ lt. absurd (not_before p rows n m s t is a b lt))
    (λ le. ⊎_elim (λ lt. absurd (not_before p rows m n t s is b a lt)) (λ ge. omega arith) (cases_lt m n))
    (cases_lt n m)

-- a step at which no position follows
stops : (p : Problem) (rows : List ℕ) (step row : ℕ) (s : Position) → LeadsTo p rows step s row → ((t : Position) → IsAt p (take (step - 1) rows ++ row ∷ []) t → ⊥) → StopsAt p rows (step - 1) s
stops p rows step row s lead none = record {
  within = let lt = slice_get_within rows (step - 1) row lead.2 in omega arith;
  here = lead.1;
  no_further = λ lt t a. none t (subst (λ l. IsAt p l t) (take_next rows (step - 1) row lead.2) a);
}

stops_finished : (p : Problem) (rows : List ℕ) (step : ℕ) → IsProblem p → (f : IsPlanFault p rows (LeftOver step)) → StopsAt p rows (step - 1) f.0
stops_finished p rows step is f =
    let s : Position = f.0 in
    stops p rows step f.1 s f.2 (λ t a. let g = goes_by p (take (step - 1) rows) f.1 s t is f.2.1 a in let open' = g.2.unfinished in let end : s.next ≡ suc s.ordered = f.3 in omega arith)

stops_outside : (p : Problem) (rows : List ℕ) (step : ℕ) → IsProblem p → (f : IsPlanFault p rows (NoSuchRow step)) → StopsAt p rows (step - 1) f.0
stops_outside p rows step is f =
    let s : Position = f.0 in
    stops p rows step f.1 s f.2 (λ t a. let g = goes_by p (take (step - 1) rows) f.1 s t is f.2.1 a in f.4 (row_there p (take (step - 1) rows) f.1 s g.0 g.1 f.2.1 g.2))

stops_illegal : (p : Problem) (rows : List ℕ) (step : ℕ) → (f : IsPlanFault p rows (NotLegal step)) → StopsAt p rows (step - 1) f.0
stops_illegal p rows step f = stops p rows step f.1 f.0 f.2 f.5

stops_after_all : (p : Problem) (rows : List ℕ) → (f : IsPlanFault p rows Incomplete) → StopsAt p rows (length rows) f.0
stops_after_all p rows f = record {
  within = omega arith;
  here = subst (λ l. IsAt p l f.0) (sym (take_all (length rows) rows (omega arith))) f.1;
  no_further = λ lt t a. omega arith;
}

-- the same step, the same position, the same row
same_step : (p : Problem) (rows : List ℕ) (k l row row' : ℕ) (s t : Position) → IsProblem p → LeadsTo p rows k s row → LeadsTo p rows l t row' → StopsAt p rows (k - 1) s → StopsAt p rows (l - 1) t → (k ≡ l) × (s ≡ t) × (row ≡ row')
same_step p rows k l row row' s t is a b stop stop' =
    let e : k - 1 ≡ l - 1 = one_stop p rows (k - 1) (l - 1) s t is stop stop' in
    let P : ℕ → Type 0 = λ n. IsAt p (take n rows) t in
    let lo = a.0 in let lo' = b.0 in (
      omega arith,
      same_at p (take (k - 1) rows) s t is a.1 (subst P (sym e) b.1),
      same_Some row row' (sym a.2 ∙ ap (slice_get rows) e ∙ b.2),
    )

not_after_all : (p : Problem) (rows : List ℕ) (k row : ℕ) (s t : Position) → IsProblem p → LeadsTo p rows k s row → StopsAt p rows (k - 1) s → StopsAt p rows (length rows) t → ⊥
not_after_all p rows k row s t is a stop stop' =
    let lt = slice_get_within rows (k - 1) row a.2 in
    let e = one_stop p rows (k - 1) (length rows) s t is stop stop' in
    omega arith

pub one_plan_fault : (p : Problem) (rows : List ℕ) (f g : PlanFault) → IsProblem p → IsPlanFault p rows f → IsPlanFault p rows g → f ≡ g
one_plan_fault p rows (LeftOver k) (LeftOver l) is a b = ap LeftOver (same_step p rows k l a.1 b.1 a.0 b.0 is a.2 b.2 (stops_finished p rows k is a) (stops_finished p rows l is b)).0
one_plan_fault p rows (LeftOver k) (NoSuchRow l) is a b =
    let same = same_step p rows k l a.1 b.1 a.0 b.0 is a.2 b.2 (stops_finished p rows k is a) (stops_outside p rows l is b) in
    absurd (b.3 (subst IsFinished same.1 a.3))
one_plan_fault p rows (LeftOver k) (NotLegal l) is a b =
    let same = same_step p rows k l a.1 b.1 a.0 b.0 is a.2 b.2 (stops_finished p rows k is a) (stops_illegal p rows l b) in
    absurd (b.3 (subst IsFinished same.1 a.3))
one_plan_fault p rows (LeftOver k) Incomplete is a b = absurd (not_after_all p rows k a.1 a.0 b.0 is a.2 (stops_finished p rows k is a) (stops_after_all p rows b))
one_plan_fault p rows (NoSuchRow k) (LeftOver l) is a b =
    let same = same_step p rows k l a.1 b.1 a.0 b.0 is a.2 b.2 (stops_outside p rows k is a) (stops_finished p rows l is b) in
    absurd (a.3 (subst IsFinished (sym same.1) b.3))
one_plan_fault p rows (NoSuchRow k) (NoSuchRow l) is a b = ap NoSuchRow (same_step p rows k l a.1 b.1 a.0 b.0 is a.2 b.2 (stops_outside p rows k is a) (stops_outside p rows l is b)).0
one_plan_fault p rows (NoSuchRow k) (NotLegal l) is a b =
    let same = same_step p rows k l a.1 b.1 a.0 b.0 is a.2 b.2 (stops_outside p rows k is a) (stops_illegal p rows l b) in
    absurd (a.4 (subst (IsRow p) (sym same.2) b.4))
one_plan_fault p rows (NoSuchRow k) Incomplete is a b = absurd (not_after_all p rows k a.1 a.0 b.0 is a.2 (stops_outside p rows k is a) (stops_after_all p rows b))
one_plan_fault p rows (NotLegal k) (LeftOver l) is a b =
    let same = same_step p rows k l a.1 b.1 a.0 b.0 is a.2 b.2 (stops_illegal p rows k a) (stops_finished p rows l is b) in
    absurd (a.3 (subst IsFinished (sym same.1) b.3))
one_plan_fault p rows (NotLegal k) (NoSuchRow l) is a b =
    let same = same_step p rows k l a.1 b.1 a.0 b.0 is a.2 b.2 (stops_illegal p rows k a) (stops_outside p rows l is b) in
    absurd (b.4 (subst (IsRow p) same.2 a.4))
one_plan_fault p rows (NotLegal k) (NotLegal l) is a b = ap NotLegal (same_step p rows k l a.1 b.1 a.0 b.0 is a.2 b.2 (stops_illegal p rows k a) (stops_illegal p rows l b)).0
one_plan_fault p rows (NotLegal k) Incomplete is a b = absurd (not_after_all p rows k a.1 a.0 b.0 is a.2 (stops_illegal p rows k a) (stops_after_all p rows b))
one_plan_fault p rows Incomplete (LeftOver l) is a b = absurd (not_after_all p rows l b.1 b.0 a.0 is b.2 (stops_finished p rows l is b) (stops_after_all p rows a))
one_plan_fault p rows Incomplete (NoSuchRow l) is a b = absurd (not_after_all p rows l b.1 b.0 a.0 is b.2 (stops_outside p rows l is b) (stops_after_all p rows a))
one_plan_fault p rows Incomplete (NotLegal l) is a b = absurd (not_after_all p rows l b.1 b.0 a.0 is b.2 (stops_illegal p rows l b) (stops_after_all p rows a))
one_plan_fault p rows Incomplete Incomplete is a b = refl
