use Rattle.std.proofs.Common.{◌≡◌, ◌+◌, ◌-◌, ◌∷◌, min, true, nat_le, if◌then◌else◌, length, reverse, get_or, refl, sym, ap, ◌∙◌, subst, arith, lit<}
use Rattle.std.proofs.lemmas.List.{length-reverse}
use Rattle.crp_plan.specs.Bay.{Position}
use Rattle.crp_bay.specs.Positions.{source, stack_at, can_shift, child}
use Rattle.crp_bay.specs.Back.{PlaceAndTrail}
use Rattle.crp_bay.specs.Located.{moved}
use Rattle.crp_bounds.specs.Leasts.{least_ordered, KnowsBounds}
use Rattle.crp_bounds.specs.declared.undo.Undo.{Undo}
use Rattle.crp_bounds.proofs.Undone.{known_now, kept_length, counted, Changes, kept_pushed}
use Rattle.crp_bounds.proofs.in_place.Bounded.push_legal.Goals as goal

pub blocking_with-blocking-requires : goal.blocking_with-blocking-requires
blocking_with-blocking-requires c =
    let k : KnowsBounds c.self.inside.leasts c.self.inside.blocking c.self.inside.position.place = known_now (reverse c.self.inside.undos.items) c.self.inside.position.trail c.self.inside.leasts c.self.inside.blocking c.self.inside.position.place c.self.invariant in
    let k' : KnowsBounds c.self.inside.leasts c.self.inside.blocking c.args.self.now.place = subst (λ (v : PlaceAndTrail). KnowsBounds c.self.inside.leasts c.self.inside.blocking v.place) c.self.view_is k in
    counted c.args.self.now.place c.args.row c.self.inside.leasts c.self.inside.blocking c.args.mover.rank c.onto-onto.result k' c.requires.legal c.requires.mover.rank c.requires.mover.few c.onto-onto.ensures

pub push_legal-requires-clause-from : goal.push_legal-requires-clause-from
push_legal-requires-clause-from c = c.requires.mover.row ∙ ap (λ (v : PlaceAndTrail). source v.place + 1) (sym c.self.view_is)

pub push_legal-requires-clause-legal : goal.push_legal-requires-clause-legal
push_legal-requires-clause-legal c = subst (λ (v : PlaceAndTrail). can_shift v.place c.args.row ≡ true) (sym c.self.view_is) c.requires.legal

pub push-requires : goal.push-requires
push-requires c =
    let kept = kept_length (reverse c.self.inside.undos.items) c.self.inside.position.trail c.self.inside.leasts c.self.inside.blocking c.self.inside.position.place c.self.invariant in
    (lit< tt, omega (arith, kept, length-reverse c.self.inside.undos.items, ap (λ (v : PlaceAndTrail). length v.trail) c.push_legal.ensures.pushed, c.push_legal.ensures.few))

pub invariant_of-self : goal.invariant_of-self
invariant_of-self c =
    let s : Position = c.self.inside.position.place in
    let onto = c.onto-onto.ensures ∙ ap (λ (v : PlaceAndTrail). least_ordered v.place.ordered (stack_at v.place (c.args.row - 1))) (sym c.self.view_is) in
    let u : Undo = record { rank = c.args.mover.rank; least = get_or c.self.inside.leasts c.args.mover.rank 0; blocking = c.self.inside.blocking } in
    let changes : Changes s c.args.row c.self.inside.leasts c.self.inside.blocking c.with_top-least.result c.blocking_with-blocking.result u = record {
      can = subst (λ (v : PlaceAndTrail). can_shift v.place c.args.row ≡ true) (sym c.self.view_is) c.requires.legal;
      rank_is = c.requires.mover.rank ∙ ap (λ (v : PlaceAndTrail). moved v.place) (sym c.self.view_is);
      rank_few = c.requires.mover.few;
      old_least = refl;
      old_count = refl;
      new_least = c.with_top-least.ensures
          ∙ ap (λ o. (if nat_le c.args.mover.rank o then min c.args.mover.rank c.onto-onto.result else c.onto-onto.result)) c.ordered.ensures.value
          ∙ ap (λ l. (if nat_le c.args.mover.rank s.ordered then min c.args.mover.rank l else l)) onto;
      freed = λ le. c.blocking_with-blocking.ensures.freed (omega (arith, onto, le));
      blocked = λ lt. c.blocking_with-blocking.ensures.blocked (omega (arith, onto, lt));
    } in
    kept_pushed c.self.inside.undos.items c.push.new.self.items c.self.inside.position c.push_legal.new.self c.args.row c.self.inside.leasts c.self.inside.blocking c.with_top-least.result c.blocking_with-blocking.result u c.self.invariant changes
    c.push_legal.ensures.pushed c.push.ensures.items

pub returns : goal.returns
returns c =
    c.push_legal.ensures.pushed ∙ ap (λ (v : PlaceAndTrail). record { place = child v.place c.args.row; trail = v.place ∷ v.trail }) c.self.view_is
