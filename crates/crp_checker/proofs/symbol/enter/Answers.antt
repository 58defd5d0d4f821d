use Rattle.std.proofs.Common.{sym, ap, ◌∙◌}
use Rattle.crp_bay.specs.Back.{PlaceAndTrail}
use Rattle.crp_checker.specs.Pending.{back, below}
use Rattle.crp_checker.proofs.Onward.{pushed}
use Rattle.crp_checker.proofs.symbol.enter.Goals as goal

pub returns-in-Some-clause-place : goal.returns-in-Some-clause-place
returns-in-Some-clause-place c =
    let e = pushed c.args.place.now c.in-Some.row c.push-pushed.new.self c.push-pushed.result c.push-pushed.ensures.target c.push-pushed.ensures.pushed (c.requires c.in-Some.row c.in-Some.is) in
    ap (λ (s : PlaceAndTrail). s.place) e ∙ sym (ap (λ n. below n c.args.place.now.place) c.in-Some.is)

pub returns-in-Some-clause-back : goal.returns-in-Some-clause-back
returns-in-Some-clause-back c row is =
    ap back (pushed c.args.place.now c.in-Some.row c.push-pushed.new.self c.push-pushed.result c.push-pushed.ensures.target c.push-pushed.ensures.pushed (c.requires c.in-Some.row c.in-Some.is))
