use Rattle.std.proofs.Common.{[], ◌-◌, suc, take, reverse, sym, ap, ◌∙◌}
use Rattle.std.proofs.lemmas.Option.{get_or_from_slice_get}
use Rattle.crp_bay.specs.Positions.{stack_at}
use Rattle.crp_bay.specs.Back.{PlaceAndTrail}
use Rattle.crp_bounds.specs.Leasts.{least_ordered, KnowsBounds}
use Rattle.crp_bounds.proofs.Undone.{known_now}
use Rattle.crp_bounds.proofs.in_place.Bounded.onto.Goals as goal

pub least_of-requires-clause-known : goal.least_of-requires-clause-known
least_of-requires-clause-known c i lt =
    let k : KnowsBounds c.self.inside.leasts c.self.inside.blocking c.self.inside.position.place = known_now (reverse c.self.inside.undos.items) c.self.inside.position.trail c.self.inside.leasts c.self.inside.blocking c.self.inside.position.place c.self.invariant in
    k.leasts_known.known (c.args.row - 1) i c.stack.result.now c.stack.ensures.value lt ∙ ap (λ o. least_ordered o (take (suc i) c.stack.result.now)) (sym c.ordered.ensures.value)

pub returns : goal.returns
returns c =
    c.least_of.ensures
    ∙ ap (λ o. least_ordered o c.stack.result.now) c.ordered.ensures.value
    ∙ ap (least_ordered c.self.inside.position.place.ordered) (sym (get_or_from_slice_get c.self.inside.position.place.stacks (c.args.row - 1) c.stack.result.now [] c.stack.ensures.value))
    ∙ ap (λ (v : PlaceAndTrail). least_ordered v.place.ordered (stack_at v.place (c.args.row - 1))) c.self.view_is
