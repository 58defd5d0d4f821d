use Rattle.std.proofs.Common.{ap, ◌∙◌}
use Rattle.crp_bay.specs.Back.{PlaceAndTrail}
use Rattle.crp_bay.proofs.Reading.{push_legal, push_target, push_at}
use Rattle.crp_bay.proofs.position.Position.child.Goals as goal

pub returns-then-not-push-clause-legal : goal.returns-then-not-push-clause-legal
returns-then-not-push-clause-legal c = push_legal c.args.self.now.place c.copy-copy.result c.args.row c.push.result _ c.copy-copy.ensures c.if-not-push.true c.push.ensures.target

pub returns-then-not-push-clause-target : goal.returns-then-not-push-clause-target
returns-then-not-push-clause-target c = push_target c.args.self.now.place c.copy-copy.result c.args.row c.push.result _ c.copy-copy.ensures c.if-not-push.true c.push.ensures.target

pub returns-clause-legal : goal.returns-clause-legal
returns-clause-legal c = push_legal c.args.self.now.place c.copy-copy.result c.args.row c.push.result _ c.copy-copy.ensures c.if-not-push.false c.push.ensures.target

pub returns-clause-at : goal.returns-clause-at
returns-clause-at c =
    push_at c.args.self.now.place c.copy-copy.result c.forget.new.self c.args.row c.copy-copy.ensures (ap (λ (v : PlaceAndTrail). v.place) c.forget.ensures ∙ ap (λ (v : PlaceAndTrail). v.place) c.if-not-push.ensures.pushed) (c.push.ensures.target.0 c.if-not-push.false)
