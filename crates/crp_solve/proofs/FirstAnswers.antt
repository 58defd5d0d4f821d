-- The answer with the first best plan, or without it, is what was asked for.
use Rattle.std.proofs.Common.{◌≡◌, ℕ, Bool, true, false, Some, refl, sym, ◌∙◌, subst}
use Rattle.crp_plan.specs.Bay.{Problem}
use Rattle.crp_plan.specs.Plans.{ProblemPath}
use Rattle.crp_tree.specs.Parts.{Certificate, claimed}
use Rattle.crp_tree.specs.First.{IsFirstAccepted}
use Rattle.crp_tree.proofs.Firsts.{first_is, first_certified}
use Rattle.crp_solve.specs.declared.answer.Answer.{Answer}
use Rattle.crp_solve.specs.declared.answer.Answer.TheVariants.{Optimal, First, NoPlan, Between}
use Rattle.crp_solve.specs.declared.answer.Solved.{Solved}
use Rattle.crp_solve.specs.declared.answer.Cause.{Cause}
use Rattle.crp_solve.specs.declared.answer.Cause.TheVariants.{Budget, Memory, Time}
use Rattle.crp_solve.specs.declared.answer.Second.{Second}
use Rattle.crp_solve.specs.declared.answer.Second.TheVariants as second
use Rattle.crp_solve.specs.declared.second.Optimum.{Optimum}
use Rattle.crp_solve.specs.Answers.{StaysAsFound, EndedSecond, IsOfFirstPart, HasNoSecond}
use Rattle.crp_solve.specs.Solved.{IsSolved, IsFirstPart}
use Rattle.crp_solve.specs.Chosen.{Chosen, is_timed}
use Rattle.crp_solve.specs.Firsts.{IsFoundFirst, IsGivenUp}
use Rattle.crp_solve.specs.Seconds.{second_by, IsKnownBest}

-- the first best plan answers what was asked
pub first_is_true : (p : Problem) (c : Chosen) (best : Optimum) (plan : ProblemPath) (shown : Certificate) (more k : ℕ) → c.first ≡ true → IsKnownBest p c best → IsFoundFirst p c.budget k plan shown more →
    IsSolved p c (record { answer = First plan shown; expanded = best.expanded; stopped = best.stopped; second = second.Done; second_expanded = more })
first_is_true p c best plan shown more k asked known found =
    let is = found.plan_is in let of = is.plan_is in let about = found.about in let t = known.answer in
    let accepted : IsFirstAccepted (claimed p shown (Some plan.path)) plan.path = first_certified p shown plan.path about of.complete found.needs in
    record {
      answer = record {
        says = record { plan_is = of; first = first_is (claimed p shown (Some plan.path)) plan.path accepted; shown = sym accepted.count; accepted = accepted };
        ended = tt;
        within = t.within;
        of_problem = about.of_problem;
        certificate = about.certificate;
        accepted = accepted.accepted;
        needed = tt;
      };
      searches = (best.plan, best.cert, known.searches);
      one_search = λ alone none. tt;
      second = (asked, refl, found.enough, found.within);
      timely = λ yes. absurd (cc);
    }

-- what is left is as it was
stays : (c : Chosen) (cause : Cause) (more : ℕ) → c.first ≡ true → IsGivenUp c.budget (is_timed c.time) cause more → StaysAsFound c.budget c.first (second_by cause) more
stays c Budget more asked given = (asked, given)
stays c Memory more asked given = (asked, given)
stays c Time more asked given = (asked, given.1)

-- and only a timed search is given up for its time
given_up_timely : (budget more : ℕ) (timed : Bool) (cause : Cause) → IsGivenUp budget timed cause more → second_by cause ≡ second.Time → timed ≡ true
given_up_timely budget more timed Budget given is = absurd (cc)
given_up_timely budget more timed Memory given is = absurd (cc)
given_up_timely budget more timed Time given is = given.0

pub cause_of_time : (cause : Cause) → second_by cause ≡ second.Time → cause ≡ Time
cause_of_time Budget is = absurd (cc)
cause_of_time Memory is = absurd (cc)
cause_of_time Time is = refl

-- so does the best plan that was known, where the search for the first was given up
pub stays_is_true : (p : Problem) (c : Chosen) (best : Optimum) (more : ℕ) (cause : Cause) (ended : Second) → ended ≡ second_by cause → c.first ≡ true → IsKnownBest p c best → IsGivenUp c.budget (is_timed c.time) cause more →
    IsSolved p c (record { answer = Optimal best.plan best.cert; expanded = best.expanded; stopped = best.stopped; second = ended; second_expanded = more })
stays_is_true p c best more cause ended is asked known given =
    record { answer = known.answer; searches = known.searches; one_search = known.one_search; second = subst (λ s. StaysAsFound c.budget c.first s more) (sym is) (stays c cause more asked given); timely = λ yes. given_up_timely c.budget more (is_timed c.time) cause given (sym is ∙ yes) }

-- and what was found without a search for it is what was asked for, where none was
unasked : (budget : ℕ) (asked : Bool) (answer : Answer) (ended : Second) (more : ℕ) → asked ≡ false → IsOfFirstPart answer → ended ≡ second.NotAsked → more ≡ 0 → EndedSecond budget asked answer ended more
unasked budget asked (Optimal plan cert) ended more plain is e m = subst (λ s. StaysAsFound budget asked s more) (sym e) (plain, m)
unasked budget asked (First plan cert) ended more plain is e m = absurd is
unasked budget asked (NoPlan cert) ended more plain is e m = (e, m)
unasked budget asked (Between lower cert plan cause) ended more plain is e m = (e, m)

pub unasked_is_solved : (p : Problem) (c : Chosen) (s : Solved) → c.first ≡ false → HasNoSecond s → IsFirstPart p c s → IsSolved p c s
unasked_is_solved p c s plain none part =
    record { answer = part.answer; searches = part.searches; one_search = part.one_search; second = unasked c.budget c.first s.answer s.second s.second_expanded plain none.answer none.second none.expanded; timely = λ yes. absurd (let both = sym none.second ∙ yes in cc) }
