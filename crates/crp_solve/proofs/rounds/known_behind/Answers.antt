use Rattle.std.proofs.Common.{◌+◌, ◌-◌, IfOk, IfErr, subst}
use Rattle.crp_solve.specs.declared.end.Together.{Together}
use Rattle.crp_solve.specs.Rests.{IsFoundTogether, IsCutShort}
use Rattle.crp_solve.proofs.Deepened.{shown_after, nearer_after, lost_after}
use Rattle.crp_solve.proofs.Rising.{one_more}
use Rattle.crp_solve.proofs.rounds.known_behind.Goals as goal

pub returns-in-Ok-clause-round : goal.returns-in-Ok-clause-round
returns-in-Ok-clause-round c =
    let p = c.args.problem.now in let budget = c.args.settings.budget in let old = c.args.known in let new : Together = c.in-Ok.found in
    let found : IsFoundTogether c.args.settings.thin p (budget - old.expanded) (old.cert.lower + 1) new.cert new.best new.expanded new.stopped =
    subst (λ o. IfOk o (λ f. IsFoundTogether c.args.settings.thin p (budget - old.expanded) (old.cert.lower + 1) f.cert f.best f.expanded f.stopped)) c.in-Ok.is c.requires.found in
    one_more p budget old new c.higher_of.result c.shorter_of.result c.requires.goes_on c.requires.undecided found c.higher_of.ensures c.shorter_of.ensures.shorter

pub returns-in-Ok-clause-shown : goal.returns-in-Ok-clause-shown
returns-in-Ok-clause-shown c =
    let p = c.args.problem.now in let budget = c.args.settings.budget in let old = c.args.known in let new : Together = c.in-Ok.found in let shown = c.requires.known in let known = shown.best_met in
    let found : IsFoundTogether c.args.settings.thin p (budget - old.expanded) (old.cert.lower + 1) new.cert new.best new.expanded new.stopped =
    subst (λ o. IfOk o (λ f. IsFoundTogether c.args.settings.thin p (budget - old.expanded) (old.cert.lower + 1) f.cert f.best f.expanded f.stopped)) c.in-Ok.is c.requires.found in
    rw (c.higher_of.ensures)
    (shown_after p budget old.cert new.cert old.best new.best c.shorter_of.result old.expanded new.expanded shown c.requires.undecided found
    (c.shorter_of.ensures.plan p known.plan_is found.best_is) c.shorter_of.ensures.shorter)

pub returns-in-Ok-clause-nearer : goal.returns-in-Ok-clause-nearer
returns-in-Ok-clause-nearer c =
    let p = c.args.problem.now in let budget = c.args.settings.budget in let old = c.args.known in let new : Together = c.in-Ok.found in
    let found : IsFoundTogether c.args.settings.thin p (budget - old.expanded) (old.cert.lower + 1) new.cert new.best new.expanded new.stopped =
    subst (λ o. IfOk o (λ f. IsFoundTogether c.args.settings.thin p (budget - old.expanded) (old.cert.lower + 1) f.cert f.best f.expanded f.stopped)) c.in-Ok.is c.requires.found in
    rw (c.higher_of.ensures)
    (nearer_after p budget old.cert new.cert old.best new.best c.shorter_of.result old.expanded new.expanded old.stopped new.stopped c.requires.known c.requires.undecided found c.shorter_of.ensures.shorter)

pub returns-in-Err-clause-lost : goal.returns-in-Err-clause-lost
returns-in-Err-clause-lost c =
    let p = c.args.problem.now in let budget = c.args.settings.budget in let old = c.args.known in let lost = c.in-Err.lost in let shown = c.requires.known in let known = shown.best_met in
    let short : IsCutShort p (budget - old.expanded) lost.best lost.expanded = subst (λ o. IfErr o (λ l. IsCutShort p (budget - old.expanded) l.best l.expanded)) c.in-Err.is c.requires.lost in
    lost_after p budget old.cert old.best lost.best c.shorter_of-in-Err.result old.expanded lost.expanded shown short
    (c.shorter_of-in-Err.ensures.plan p short.best_is known.plan_is) c.shorter_of-in-Err.ensures.shorter
