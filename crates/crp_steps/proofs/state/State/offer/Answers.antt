use Rattle.crp_steps.proofs.Acts.{can_offer, offers, offers_not, both}
use Rattle.crp_steps.proofs.state.State.offer.Goals as goal

pub returns-in_default-clause-stopped : goal.returns-in_default-clause-stopped
returns-in_default-clause-stopped c = λ next r. c.in_default.ensures.none r.path r.place (record { worker = r.worker; acts = r.acts; others = r.others; current = r.current })

pub returns-then-not-is_done-clause-stopped : goal.returns-then-not-is_done-clause-stopped
returns-then-not-is_done-clause-stopped c = λ next r.
    offers_not c.args.self.now c.args.k (c.in-Some.current).path (c.in-Some.current).place.place c.in-Some.ensures.problem c.in-Some.ensures.current
    (λ f. both c.is_done.result (c.is_done.ensures.done.1 f) c.if-not-is_done.true) next r

pub returns-clause-done : goal.returns-clause-done
returns-clause-done c =
    offers c.args.self.now c.add_offer.new.self c.meet.new.self c.args.k (c.in-Some.current).path (c.in-Some.current).place.place c.length.result c.words-words.result c.offer.new.self c.in-Some.ensures.current
    (c.is_done.ensures.done.0 c.if-not-is_done.false) c.length.ensures.value c.in-Ok.ensures.done c.words-words.ensures c.offer.ensures c.meet.ensures

pub returns-in_default-add_offer-clause-stopped : goal.returns-in_default-add_offer-clause-stopped
returns-in_default-add_offer-clause-stopped c =
    can_offer c.args.self.now c.args.k (c.in-Some.current).path (c.in-Some.current).place.place c.in-Some.ensures.current (c.is_done.ensures.done.0 c.if-not-is_done.false)
