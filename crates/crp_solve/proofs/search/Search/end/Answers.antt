use Rattle.std.proofs.Common.{◌≡◌, ◌≤◌, ℕ, Bool, true, rules, IfOk, IfErr, IfSome, subst, sym, ap, ◌∙◌, arith}
use Rattle.std.specs.Result.{IsOkAnd}
use Rattle.std.proofs.lemmas.Result.{IfOk-weaker}
use Rattle.crp_plan.specs.Bay.{Problem, IsProblem}
use Rattle.crp_solve.specs.Answers.{path_in, count_of, IsPlanOf}
use Rattle.crp_solve.specs.Chosen.{Chosen, is_timed}
use Rattle.crp_solve.specs.Desks.{count_or}
use Rattle.crp_solve.specs.Searches.{IsLost}
use Rattle.crp_solve.specs.Rounds.{IsStartPlan, IsOneSearch, AreSearched}
use Rattle.crp_solve.specs.Solved.{IsSolved, IsFirstPart}
use Rattle.crp_solve.specs.Groups.{AreTogether}
use Rattle.crp_solve.specs.Rests.{IsFoundTogether}
use Rattle.crp_solve.proofs.Halves.{together_at}
use Rattle.crp_solve.proofs.Rising.{one_searched}
use Rattle.crp_solve.proofs.Stopped.{of_found}
use Rattle.crp_solve.proofs.FirstAnswers.{unasked_is_solved}
use Rattle.crp_solve.proofs.KeptPlan.{met_no_more, left_no_more, known_no_more, answer_no_more, both}
use Rattle.crp_solve.proofs.search.Search.end.Goals as goal

pub put_together-done-requires-clause-words : goal.put_together-done-requires-clause-words
put_together-done-requires-clause-words g c =
    let workers = c.self.inside.workers.value.items in
    let same : c.args.self.workers ≡ workers = search rules in
    together_at c.self.inside.common.of workers c.args.all c.self.invariant.workers.ready (subst (λ l. AreTogether l c.args.all) same c.requires.together)

pub returns-clause-solved : goal.returns-clause-solved
returns-clause-solved g c =
    let p = c.copy-problem.result in let chosen = c.self.inside.settings in let budget = c.budget.result in let of = c.self.inside.common.of in let found = c.found_by-found.result in let known = c.self.inside.known in
    let kept = c.self.invariant in
    let problem_is : p ≡ of.key.problem = search rules in
    let shared_is : c.shared_of-shared.result.key.start ≡ of.key.start = search rules in
    let first : c.shared_of-shared.result.key.start ≡ count_of p (path_in known) = shared_is ∙ kept.first ∙ ap (λ (q : Problem). count_of q (path_in known)) (sym problem_is) in
    let thin_is : c.shared_of-shared.result.key.thin ≡ of.key.thin = search rules in
    let thin : c.shared_of-shared.result.key.thin ≡ chosen.thin = thin_is ∙ kept.thin in
    let start : IsStartPlan p chosen known = subst (λ (q : Problem). IsStartPlan q chosen known) (sym problem_is) kept.start in
    let once = c.with_known.ensures.one_search chosen.thin p budget (subst (λ (t : ℕ). IfOk found (λ r. IsFoundTogether t p budget (count_of p (path_in known)) r.cert r.best r.expanded r.stopped)) thin
    (subst (λ (n : ℕ). IfOk found (λ r. IsFoundTogether c.shared_of-shared.result.key.thin p budget n r.cert r.best r.expanded r.stopped)) first c.found_by-found.ensures.found)) in
    let timed_is : c.shared_of-shared.result.key.timed ≡ of.key.timed = search rules in
    let timed = subst (λ (b : Bool). IfOk found (λ r. r.stopped ≡ true → b ≡ true)) (timed_is ∙ kept.timed) c.found_by-found.ensures.timely in
    let timely = IfOk-weaker c.with_known.result (λ r. IsOkAnd found (λ f. r.stopped ≡ f.stopped)) (λ r. r.stopped ≡ true → is_timed chosen.time ≡ true)
    (λ r same yes. of_found found (λ f same timed. timed (sym same ∙ yes)) same timed) c.with_known.ensures.stopped in
    let searched : IfOk c.with_known.result (AreSearched p chosen) =
    one_searched p chosen known c.with_known.result kept.one_search start (subst (λ b. IfOk c.with_known.result (IsOneSearch chosen.thin p b known)) c.budget.ensures.value once) timely in
    let lost = c.with_known.ensures.lost p budget start.best_met c.found_by-found.ensures.lost in
    let answered : IfOk c.answer_to.result (IsFirstPart p chosen) = c.answer_to.ensures.answered chosen searched (subst (λ b. IfErr c.with_known.result (λ l. IsLost p b l.best l.expanded)) c.budget.ensures.value lost) in
    let solved : IfOk c.answer_to.result (IsSolved p chosen) = both c.answer_to.result (λ s part none. unasked_is_solved p chosen s kept.not_first none part) answered c.answer_to.ensures.no_second in
    let whose : p ≡ c.args.self.of.key.problem = search rules in
    let what : chosen ≡ c.args.self.chosen = search rules in
    subst (λ (q : Problem). IfOk c.answer_to.result (IsSolved q c.args.self.chosen)) whose (subst (λ (d : Chosen). IfOk c.answer_to.result (IsSolved p d)) what solved)

pub returns-clause-plan : goal.returns-clause-plan
returns-clause-plan g c =
    let p = c.copy-problem.result in let of = c.self.inside.common.of in let known = c.self.inside.known in let kept = c.self.invariant in let done = c.put_together-done.result in let all = c.args.all in
    let before = c.put_together-done.ensures.kept_before in let had = before.plan_kept in let after = c.put_together-done.ensures.kept in let has = after.plan_kept in
    let start = of.key.start in
    let problem_is : of.key.problem ≡ p = search rules in
    let at : start ≡ count_of p (path_in known) = kept.first ∙ ap (λ (q : Problem). count_of q (path_in known)) problem_is in
    let is = subst (λ (q : Problem). IfSome all.plan (IsPlanOf q)) problem_is had.plan_is in
    let low : count_or start (path_in done.best) ≤ count_or start (path_in all.plan) = omega (arith, c.put_together-done.ensures.mine, had.mine, has.mine) in
    let whole : IsProblem p = subst IsProblem (sym c.copy-problem.ensures.same) c.copy-problem.ensures.problem in
    answer_no_more c.with_known.result c.answer_to.result (path_in all.plan)
    (known_no_more c.found_by-found.result c.with_known.result known done.best (path_in all.plan) c.with_known.ensures.kind c.found_by-found.ensures.best c.found_by-found.ensures.best_left c.with_known.ensures.met
    c.with_known.ensures.better (met_no_more p start known done.best all.plan whole at is low) (λ left more. left_no_more p start known done.best all.plan left whole at is low more))
    c.answer_to.ensures.plan c.answer_to.ensures.plan_left
