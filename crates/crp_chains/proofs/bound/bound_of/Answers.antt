use Rattle.std.proofs.Common.{◌≡◌, ap, subst, arith}
use Rattle.crp_plan.specs.Bay.{Position}
use Rattle.crp_chains.specs.Chains.{IsFamily, gain}
use Rattle.crp_chains.proofs.Reading.{chains_floor}
use Rattle.crp_chains.proofs.bound.bound_of.Goals as goal

pub returns-clause-below_every_plan : goal.returns-clause-below_every_plan
returns-clause-below_every_plan c p path more moves is a plan e =
    let s : Position = c.args.bounded.now.place in
    let g = c.in-Some.ensures.gain in
    let here : c.position.result.now.place ≡ s = ap (λ v. v.place) c.position.ensures in
    let f : IsFamily s g.0 = subst (λ v. IsFamily v g.0) here g.2 in
    omega (arith, c.blocking.ensures.value, g.3, ap (λ v. gain v g.0) here, chains_floor p path more s g.0 moves is a f plan e)
