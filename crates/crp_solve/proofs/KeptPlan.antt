-- The plan of an answer has no more relocations than the best one of the workers.
use Rattle.std.proofs.Common.{◌≡◌, ℕ, ◌<◌, ◌≤◌, ◌↔◌, min, true, false, List, length, Option, None, Some, IfSome, Result, Ok, Err, IsOk, IfOk, IfErr, ⊎_elim, refl, sym, ap, subst, arith}
use Rattle.crp_plan.specs.Bay.{Problem, IsProblem}
use Rattle.crp_plan.specs.Plans.{ProblemPath}
use Rattle.crp_solve.specs.declared.answer.Solved.{Solved}
use Rattle.crp_solve.specs.declared.end.Together.{Together}
use Rattle.crp_solve.specs.declared.end.Lost.{Lost}
use Rattle.crp_solve.specs.Answers.{path_in, plan_of, count_of, shorter, IsPlanOf}
use Rattle.crp_solve.specs.Desks.{count_or}
use Rattle.crp_solve.specs.Searches.{met_or_known, HasNoMore}
use Rattle.crp_solve.proofs.Limits.{smaller_is, path_below_cap}

-- the better of two plans has no more relocations than either
picked : (plan other all : ProblemPath) → min (length plan.path) (length other.path) ≤ length all.path → HasNoMore (path_in (shorter (Some plan) (Some other))) (Some all.path)
picked plan other all le =
    let P : Option ProblemPath → Type 0 = λ o. HasNoMore (path_in o) (Some all.path) in
    ⊎_elim
    (λ (x : (length other.path < length plan.path) × (shorter (Some plan) (Some other) ≡ Some other)). subst P (sym x.1) (omega (arith, x.0, le)))
    (λ (x : (length plan.path ≤ length other.path) × (shorter (Some plan) (Some other) ≡ Some plan)). subst P (sym x.1) (omega (arith, x.0, le)))
    (smaller_is (length other.path) (length plan.path) (Some other) (Some plan))

-- what the workers kept in the end has no more than what they had before: so has the plan that is known in the end
pub met_no_more : (p : Problem) (start : ℕ) (known kept all : Option ProblemPath) → IsProblem p → start ≡ count_of p (path_in known) → IfSome all (IsPlanOf p) →
    count_or start (path_in kept) ≤ count_or start (path_in all) → HasNoMore (path_in (met_or_known kept known)) (path_in all)
met_no_more p start known kept None is at plan le = tt
met_no_more p start None None (Some all) is at plan le = absurd (omega (arith, at, le, path_below_cap p all.path is plan.complete))
met_no_more p start (Some known) None (Some all) is at plan le = omega (arith, at, le)
met_no_more p start known (Some kept) (Some all) is at plan le = le

pub left_no_more : (p : Problem) (start : ℕ) (known kept all left : Option ProblemPath) → IsProblem p → start ≡ count_of p (path_in known) → IfSome all (IsPlanOf p) →
    count_or start (path_in kept) ≤ count_or start (path_in all) → HasNoMore (path_in left) (path_in kept) → HasNoMore (path_in (shorter left known)) (path_in all)
left_no_more p start known kept None left is at plan le more = tt
left_no_more p start None None (Some all) left is at plan le more = absurd (omega (arith, at, le, path_below_cap p all.path is plan.complete))
left_no_more p start (Some known) None (Some all) None is at plan le more = omega (arith, at, le)
left_no_more p start (Some known) None (Some all) (Some left) is at plan le more = picked left known all (omega (arith, at, le))
left_no_more p start known (Some kept) (Some all) None is at plan le more = absurd more
left_no_more p start None (Some kept) (Some all) (Some left) is at plan le more = omega (arith, le, more)
left_no_more p start (Some known) (Some kept) (Some all) (Some left) is at plan le more = picked left known all (omega (arith, le, more))

not_true : false ≡ true → ⊥
not_true e = cc e

-- with what was known before the search
pub known_no_more : (found behind : Result Together Lost) (known kept : Option ProblemPath) (all : Option (List ℕ)) → IsOk behind ↔ IsOk found → IfOk found (λ f. f.best ≡ kept) → IfErr found (λ l. HasNoMore (path_in l.best) (path_in kept)) →
    IfOk found (λ f. IfOk behind (λ r. r ≡ record f { best = met_or_known f.best known })) → IfErr found (λ l. IfErr behind (λ r. r ≡ record l { best = shorter l.best known })) →
    HasNoMore (path_in (met_or_known kept known)) all → ((left : Option ProblemPath) → HasNoMore (path_in left) (path_in kept) → HasNoMore (path_in (shorter left known)) all) →
    IfOk behind (λ r. HasNoMore (path_in r.best) all) × IfErr behind (λ l. HasNoMore (path_in l.best) all)
known_no_more (Ok f) (Ok r) known kept all kind best left met better good bad =
    (subst (λ o. HasNoMore (path_in o) all) (sym (ap (λ (t : Together). t.best) met)) (subst (λ o. HasNoMore (path_in (met_or_known o known)) all) (sym best) good), tt)
known_no_more (Ok f) (Err r) known kept all kind best left met better good bad = absurd (not_true (kind.1 refl))
known_no_more (Err l) (Ok r) known kept all kind best left met better good bad = absurd (not_true (kind.0 refl))
known_no_more (Err l) (Err r) known kept all kind best left met better good bad =
    (tt, subst (λ o. HasNoMore (path_in o) all) (sym (ap (λ (t : Lost). t.best) better)) (bad l.best left))

-- and in the answer
pub answer_no_more : {E : Type 0} (known : Result Together Lost) (answer : Result Solved E) (all : Option (List ℕ)) → IfOk known (λ r. HasNoMore (path_in r.best) all) × IfErr known (λ l. HasNoMore (path_in l.best) all) →
    IfOk known (λ r. IfOk answer (λ s. plan_of s.answer ≡ path_in r.best)) → IfErr known (λ l. IfOk answer (λ s. plan_of s.answer ≡ path_in l.best)) →
    IfOk answer (λ s. HasNoMore (plan_of s.answer) all)
answer_no_more known (Err e) all no_more plan left = tt
answer_no_more (Ok r) (Ok s) all no_more plan left = subst (λ o. HasNoMore o all) (sym plan) no_more.0
answer_no_more (Err l) (Ok s) all no_more plan left = subst (λ o. HasNoMore o all) (sym left) no_more.1

-- two facts of what was returned
pub both : {X E : Type 0} (r : Result X E) {P Q R : X → Type 0} → ((x : X) → P x → Q x → R x) → IfOk r P → IfOk r Q → IfOk r R
both (Ok x) f p q = f x p q
both (Err e) f p q = tt
