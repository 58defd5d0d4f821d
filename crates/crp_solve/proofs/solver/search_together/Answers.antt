use Rattle.std.proofs.Common.{subst}
use Rattle.crp_solve.specs.Rests.{IsFoundTogether}
use Rattle.crp_solve.proofs.Looked.{after_look}
use Rattle.crp_solve.proofs.solver.search_together.Goals as goal

pub returns-clause-found : goal.returns-clause-found
returns-clause-found g c =
    let p = c.args.problem.now in let look = c.in_ok-found.found in let more = c.in_ok-more.more in
    after_look p c.in-Some.look.budget c.args.settings.budget c.args.first look.cert more.cert look.best more.best c.first_of.result look.expanded more.expanded c.requires.first c.in_ok-found.ensures.found
    (subst (λ n. IsFoundTogether c.args.settings.thin p c.args.settings.budget n more.cert more.best more.expanded more.stopped) c.count_or-limit.ensures c.in_ok-more.ensures.found) c.first_of.ensures
