-- The plan of a search that its budget ended is the best that it met.
use Rattle.std.proofs.Common.{◌≡◌, ℕ, ◌≤◌, ⊎_elim, false, Option, None, Some, All, refl, ap, ◌∙◌, subst, arith}
use Rattle.std.proofs.lemmas.List.Elements.{All-weaker}
use Rattle.crp_plan.specs.Bay.{Problem, IsFinished}
use Rattle.crp_plan.specs.Plans.{ProblemPath}
use Rattle.crp_tree.specs.Trees.{value}
use Rattle.crp_tree.specs.Parts.{Certificate, cuts_in}
use Rattle.crp_search.specs.Searched.{IsClosed}
use Rattle.crp_solve.specs.declared.answer.Answer.TheVariants.{Between}
use Rattle.crp_solve.specs.declared.answer.Cause.TheVariants.{Budget}
use Rattle.crp_solve.specs.declared.answer.Solved.{Solved}
use Rattle.crp_solve.specs.Answers.{path_in, count_of}
use Rattle.crp_solve.specs.Chosen.{Chosen}
use Rattle.crp_solve.specs.Desks.{count_or}
use Rattle.crp_solve.specs.Searches.{met_or_known}
use Rattle.crp_solve.specs.Rounds.{SearchesOf, IsOneSearch}
use Rattle.crp_solve.specs.Solved.{known_by, ComesOf, IsSolved}

met_count : (p : Problem) (met known : Option ProblemPath) → count_of p (path_in (met_or_known met known)) ≡ count_or (count_of p (path_in known)) (path_in met)
met_count p None known = refl
met_count p (Some plan) known = refl

-- at no leaf where all have left is the value below the plan's relocations
pub best_met : (p : Problem) (c : Chosen) (s : Solved) (lower : ℕ) (cert : Certificate) (plan : Option ProblemPath) → c.deepen ≡ false → IsSolved p c s → s.answer ≡ Between lower cert plan Budget →
    All (λ part. All (λ cut. IsFinished cut.place → count_of p (path_in plan) ≤ value cut) (cuts_in part)) cert.parts
best_met p c s lower cert plan alone solved is =
    let comes : ComesOf p c (Between lower cert plan Budget) s.expanded s.stopped = subst (λ a. ComesOf p c a s.expanded s.stopped) is solved.searches in let come = comes.1 in
    let one : IsOneSearch c.thin p c.budget come.plan (known_by cert plan s.expanded s.stopped) = subst (λ b. SearchesOf b c.thin p c.budget come.plan (known_by cert plan s.expanded s.stopped)) alone come.searches in
    let found = one.found in let ended = found.ended in
    let count : count_of p (path_in plan) ≡ count_or (count_of p (path_in come.plan)) (path_in one.met) = ap (λ o. count_of p (path_in o)) one.best ∙ met_count p one.met come.plan in
    λ i d lt. (
    let part = ended.searched i d lt in
    All-weaker (IsClosed found.view) (λ cut. IsFinished cut.place → count_of p (path_in plan) ≤ value cut)
    (λ cut closed finished. ⊎_elim (λ (seen : found.view.seen ≤ value cut). omega (arith, seen, count, ended.met)) (λ in_vain. absurd (omega (arith, in_vain.2, finished))) closed)
    _ part.closed)
