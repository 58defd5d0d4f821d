use Rattle.std.proofs.Common.{◌≡◌, false, rules, sym, subst}
use Rattle.crp_search.specs.Limits.{ClaimsExpansion}
use Rattle.crp_solve.specs.Desks.{known_with}
use Rattle.crp_solve.proofs.Stopped.{claim_stopped}
use Rattle.crp_solve.proofs.workers.desk.DeskClaims.claim.Goals as goal

pub returns-then-self : goal.returns-then-self
returns-then-self g c =
    let d = c.self.inside in let budget = c.args.self.now.of.key.budget in let now = c.is_stopped-self-inside.result in
    let known : c.args.self.now.view ≡ known_with d.stopped d.seat.view = search rules in
    let stopped = claim_stopped budget d.stopped now d.seat.view c.if-self.true in
    (subst (λ v. ClaimsExpansion budget v false (known_with now d.seat.view)) (sym known) stopped, search rules)
