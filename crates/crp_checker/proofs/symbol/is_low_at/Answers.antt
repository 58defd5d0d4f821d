use Rattle.std.proofs.Common.{◌+◌, length, nat_lt, sym, ap, ◌∙◌}
use Rattle.crp_plan.specs.Bay.{Position}
use Rattle.crp_bay.specs.Back.{PlaceAndTrail}
use Rattle.crp_bounds.specs.Bounds.{look_ahead}
use Rattle.crp_tree.proofs.Followed.{pop_back}
use Rattle.crp_checker.specs.Kept.{need_by}
use Rattle.crp_checker.specs.Pending.{below}
use Rattle.crp_checker.proofs.Onward.{pushed}
use Rattle.crp_checker.proofs.symbol.is_low_at.Goals as goal

pub returns-clause-found : goal.returns-clause-found
returns-clause-found c =
    let e = pushed c.args.place.now c.in-Some.row c.push-pushed.new.self c.push-pushed.result c.push-pushed.ensures.target c.push-pushed.ensures.pushed (c.requires c.in-Some.row c.in-Some.is) in
    c.is_low_ahead-is_low.ensures
    ∙ ap (λ (s : Position). nat_lt (length c.args.path.now + look_ahead s) (need_by c.args.need.now c.args.path.now))
    (ap (λ (s : PlaceAndTrail). s.place) e ∙ sym (ap (λ n. below n c.args.place.now.place) c.in-Some.is))

pub returns-clause-same : goal.returns-clause-same
returns-clause-same c =
    pop_back c.args.place.now c.push-pushed.new.self c.pop-popped.new.self c.in-Some.row c.pop-popped.result
    (pushed c.args.place.now c.in-Some.row c.push-pushed.new.self c.push-pushed.result c.push-pushed.ensures.target c.push-pushed.ensures.pushed (c.requires c.in-Some.row c.in-Some.is))
    (record { popped = c.pop-popped.ensures.popped; none = c.pop-popped.ensures.none })
