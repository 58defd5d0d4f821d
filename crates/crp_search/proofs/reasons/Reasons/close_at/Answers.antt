use Rattle.std.proofs.lemmas.Result.{err_from_is_err_and}
use Rattle.crp_search.proofs.Claiming.{only_granted, granted_same, ends_try, tried_same}
use Rattle.crp_search.proofs.reasons.Reasons.close_at.Goals as goal

pub returns-in_err-close_thinned-clause-ended : goal.returns-in_err-close_thinned-clause-ended
returns-in_err-close_thinned-clause-ended g c =
    let L = g.L.Limit in
    let e = err_from_is_err_and c.from_residual.result c.from_residual.ensures.1 in
    rw (e.1, e.2) (ends_try g.L.Claims.claims L.problem L.budget L.view L.puts g.met.L.Limit.claimed c.args.self.now.thinning.most _ c.args.limit.now c.close_thinned.new.claims c.in_err-close_thinned.ensures.claimed)

pub returns-in_err-close_thinned-clause-same : goal.returns-in_err-close_thinned-clause-same
returns-in_err-close_thinned-clause-same g c =
    let L = g.L.Limit in
    tried_same g.L.Claims.claims L.problem L.budget L.view L.puts g.met.L.Limit.claimed c.args.self.now.thinning.most _ c.args.limit.now c.close_thinned.new.claims c.in_err-close_thinned.ensures.claimed

pub returns-clause-granted : goal.returns-clause-granted
returns-clause-granted g c =
    let L = g.L.Limit in
    let k = c.in_ok-close_thinned.ensures.granted in
    only_granted g.L.Claims.claims L.problem L.budget L.view L.puts g.met.L.Limit.claimed _ c.args.self.now.thinning.most c.args.limit.now c.close_thinned.new.claims k.0 k.1

pub returns-clause-same : goal.returns-clause-same
returns-clause-same g c =
    let L = g.L.Limit in
    let k = c.in_ok-close_thinned.ensures.granted in
    granted_same g.L.Claims.claims L.problem L.budget L.view L.puts g.met.L.Limit.claimed _ c.args.limit.now c.close_thinned.new.claims k.1
