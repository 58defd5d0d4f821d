use Rattle.std.proofs.Common.{IfOk, IfErr, subst}
use Rattle.crp_solve.specs.declared.end.Together.{Together}
use Rattle.crp_solve.specs.Searches.{IsLost}
use Rattle.crp_solve.specs.Rounds.{AreSearched}
use Rattle.crp_solve.proofs.SearchesEnded.{searched_ended, searched_branches}
use Rattle.crp_solve.proofs.answering.answer_to.Goals as goal

pub returns-in-Ok-clause-answered : goal.returns-in-Ok-clause-answered
returns-in-Ok-clause-answered c chosen searched lost =
    let p = c.args.problem.now in let r : Together = c.in-Ok.found in let given = c.answer_of_ended-answer.ensures in
    let s : AreSearched p chosen r = subst (λ o. IfOk o (AreSearched p chosen)) c.in-Ok.is searched in
    rw (c.without_second.ensures.answer, c.without_second.ensures.expanded, c.without_second.ensures.stopped)
    (record {
      answer = given.true_answer chosen.budget r.expanded (searched_ended p chosen r s);
      searches = given.comes chosen r.expanded s;
      one_search = λ alone none. given.one_search r.expanded (searched_branches p chosen r s alone none);
    })

pub returns-in_ok-answer-in-Err-clause-answered : goal.returns-in_ok-answer-in-Err-clause-answered
returns-in_ok-answer-in-Err-clause-answered c chosen searched lost =
    let p = c.args.problem.now in let r = c.in-Err.lost in let given = c.in_ok-answer-in-Err.ensures in
    rw (c.without_second-in-Err.ensures.answer, c.without_second-in-Err.ensures.expanded, c.without_second-in-Err.ensures.stopped)
    (record {
      answer = given.true_answer chosen.budget r.expanded (subst (λ o. IfErr o (λ l. IsLost p chosen.budget l.best l.expanded)) c.in-Err.is lost);
      searches = given.comes chosen r.expanded;
      one_search = λ alone none. given.is_branch r.expanded;
    })
