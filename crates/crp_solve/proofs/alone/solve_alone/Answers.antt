use Rattle.std.proofs.Common.{◌≡◌, ⊎_elim, sym, ◌∙◌, subst}
use Rattle.crp_solve.specs.declared.answer.Solved.{Solved}
use Rattle.crp_solve.specs.declared.second.Asked.TheVariants.{First}
use Rattle.crp_solve.specs.Seconds.{IsAsked, IsAskedOf}
use Rattle.crp_solve.specs.Solved.{WasStopped}
use Rattle.crp_solve.proofs.Stopped.{of_found, of_fault}
use Rattle.crp_solve.proofs.alone.solve_alone.Goals as goal

pub returns-in-Nothing-clause-solved : goal.returns-in-Nothing-clause-solved
returns-in-Nothing-clause-solved c =
    let p = c.args.problem.now in let chosen = c.args.settings in
    let answered = c.in_ok-solved.ensures.answered chosen c.found_alone-found.ensures.searched c.found_alone-found.ensures.lost in
    subst (IsAsked p chosen) c.in-Nothing.is (c.asked_for.ensures.asked p answered)

pub first_alone-found-requires-clause-plan : goal.first_alone-found-requires-clause-plan
first_alone-found-requires-clause-plan c =
    let p = c.args.problem.now in let chosen = c.args.settings in let best = c.in-First.best in
    let answered = c.in_ok-solved.ensures.answered chosen c.found_alone-found.ensures.searched c.found_alone-found.ensures.lost in
    let asked : IsAsked p chosen (First best) = subst (IsAsked p chosen) c.in-First.is (c.asked_for.ensures.asked p answered) in
    let known = asked.1 in let t = known.answer in let says = t.says in says.plan_is

pub first_alone-found-requires-clause-best : goal.first_alone-found-requires-clause-best
first_alone-found-requires-clause-best c =
    let p = c.args.problem.now in let chosen = c.args.settings in let best = c.in-First.best in
    let answered = c.in_ok-solved.ensures.answered chosen c.found_alone-found.ensures.searched c.found_alone-found.ensures.lost in
    let asked : IsAsked p chosen (First best) = subst (IsAsked p chosen) c.in-First.is (c.asked_for.ensures.asked p answered) in
    let known = asked.1 in let t = known.answer in let says = t.says in says.best

pub returns-clause-solved : goal.returns-clause-solved
returns-clause-solved c =
    let p = c.args.problem.now in let chosen = c.args.settings in let best = c.in-First.best in let found = c.first_alone-found.ensures in
    let answered = c.in_ok-solved.ensures.answered chosen c.found_alone-found.ensures.searched c.found_alone-found.ensures.lost in
    let asked : IsAsked p chosen (First best) = subst (IsAsked p chosen) c.in-First.is (c.asked_for.ensures.asked p answered) in
    c.answer_with_second.ensures.solved p chosen asked.0 asked.1 found.found found.given_up

pub returns-in-Nothing-clause-never_stopped : goal.returns-in-Nothing-clause-never_stopped
returns-in-Nothing-clause-never_stopped c =
    let before = c.in_ok-solved.ensures.no_second in
    let same : c.in-Nothing.solved ≡ c.in_ok-solved.solved = subst (IsAskedOf c.in_ok-solved.solved) c.in-Nothing.is c.asked_for.ensures.same in
    subst (λ (s : Solved). WasStopped s → ⊥) (sym same)
    (⊎_elim (λ yes. of_found c.found_alone-found.result (λ f is never. absurd (let both = sym never ∙ is in cc)) (c.in_ok-solved.ensures.stopped yes) c.found_alone-found.ensures.never_stopped)
    (λ is. absurd (let both = sym before.second ∙ is in cc)))

pub returns-clause-never_stopped : goal.returns-clause-never_stopped
returns-clause-never_stopped c =
    let same : c.in-First.best.stopped ≡ c.in_ok-solved.solved.stopped = subst (IsAskedOf c.in_ok-solved.solved) c.in-First.is c.asked_for.ensures.same in
    ⊎_elim
    (λ yes. of_found c.found_alone-found.result (λ f is never. absurd (let both = sym never ∙ is in cc)) (c.in_ok-solved.ensures.stopped (sym (c.answer_with_second.ensures.stopped ∙ same) ∙ yes)) c.found_alone-found.ensures.never_stopped)
    (λ is. of_fault c.first_alone-found.result (λ end is never. never is) (c.answer_with_second.ensures.time is) c.first_alone-found.ensures.never_stopped)
