use Rattle.std.proofs.Common.{IfOk, IfErr, subst}
use Rattle.crp_solve.specs.Answers.{path_in, count_of}
use Rattle.crp_solve.specs.Rests.{IsFoundTogether, IsCutShort}
use Rattle.crp_solve.proofs.Limits.{shorter_met}
use Rattle.crp_solve.proofs.rounds.with_known.Goals as goal

pub returns-in-Ok-clause-one_search : goal.returns-in-Ok-clause-one_search
returns-in-Ok-clause-one_search c thin p budget found = record {
  met = c.in-Ok.found.best;
  found = subst (λ o. IfOk o (λ r. IsFoundTogether thin p budget (count_of p (path_in c.args.known)) r.cert r.best r.expanded r.stopped)) c.in-Ok.is found;
  best = c.first_of.ensures;
}

pub returns-in-Err-clause-lost : goal.returns-in-Err-clause-lost
returns-in-Err-clause-lost c p budget met short =
    let r = c.in-Err.lost in
    let s : IsCutShort p budget r.best r.expanded = subst (λ o. IfErr o (λ l. IsCutShort p budget l.best l.expanded)) c.in-Err.is short in
    record { best_met = shorter_met p r.best c.args.known c.shorter_of.result met s.best_is (c.shorter_of.ensures.plan p s.best_is met.plan_is) c.shorter_of.ensures.shorter; within = s.within }
