use Rattle.std.proofs.Common.{refl, sym, ap, ◌∙◌}
use Rattle.crp_bay.specs.Positions.{can_shift}
use Rattle.crp_bay.specs.Back.{PlaceAndTrail}
use Rattle.crp_bay.proofs.Walked.{allows}
use Rattle.crp_bay.proofs.Pushing.{found}
use Rattle.crp_bay.proofs.Reading.{legal_by, leads_to}
use Rattle.crp_bounds.proofs.in_place.Bounded.push.Goals as goal

pub returns-then-not-is_target-clause-target : goal.returns-then-not-is_target-clause-target
returns-then-not-is_target-clause-target c = found c.args.self.now.place c.args.row _ (sym c.if-not-is_target.true ∙ c.is_target.ensures ∙ ap (λ (v : PlaceAndTrail). can_shift v.place c.args.row) c.self.view_is)

pub returns-then-not-is_target-clause-legal : goal.returns-then-not-is_target-clause-legal
returns-then-not-is_target-clause-legal c = legal_by c.args.self.now.place c.args.row _ (returns-then-not-is_target-clause-target c)

pub push_legal-requires-clause-legal : goal.push_legal-requires-clause-legal
push_legal-requires-clause-legal c = sym (ap (λ (v : PlaceAndTrail). can_shift v.place c.args.row) c.self.view_is) ∙ sym c.is_target.ensures ∙ c.if-not-is_target.false

pub push_legal-requires-clause-mover : goal.push_legal-requires-clause-mover
push_legal-requires-clause-mover c = let a = allows c.args.self.now.place c.args.row (push_legal-requires-clause-legal c) in c.mover-mover.ensures a.unfinished

pub returns-clause-target : goal.returns-clause-target
returns-clause-target c = found c.args.self.now.place c.args.row _ (sym c.if-not-is_target.false ∙ c.is_target.ensures ∙ ap (λ (v : PlaceAndTrail). can_shift v.place c.args.row) c.self.view_is)

pub returns-clause-legal : goal.returns-clause-legal
returns-clause-legal c = legal_by c.args.self.now.place c.args.row _ (returns-clause-target c)

pub returns-clause-at : goal.returns-clause-at
returns-clause-at c = leads_to c.args.self.now.place _ c.args.row (ap (λ (v : PlaceAndTrail). v.place) c.push_legal.ensures) ((returns-clause-target c).0 refl)
