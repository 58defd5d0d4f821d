use Rattle.crp_steps.proofs.Acts.{can_close, closes_not, closes_not_held, both}
use Rattle.crp_steps.proofs.state.State.leaf.Goals as goal

pub returns-in_default-clause-stopped : goal.returns-in_default-clause-stopped
returns-in_default-clause-stopped c = λ next r. c.in_default.ensures.none r.path r.place (record { worker = r.worker; acts = r.acts; others = r.others; current = r.current })

pub returns-then-not-holds-clause-stopped : goal.returns-then-not-holds-clause-stopped
returns-then-not-holds-clause-stopped c = λ next r.
    closes_not_held c.args.self.now c.args.k c.args.bound (c.in-Some.current).path (c.in-Some.current).place.place c.in-Some.ensures.problem c.in-Some.ensures.current
    (λ h. both c.holds.result (c.holds.ensures.1 h) c.if-not-holds.true) next r

pub returns-then-not-may_close-clause-stopped : goal.returns-then-not-may_close-clause-stopped
returns-then-not-may_close-clause-stopped c = λ next r.
    closes_not c.args.self.now c.args.k c.args.bound (c.in-Some.current).path (c.in-Some.current).place.place c.value-value.result c.in-Some.ensures.problem c.in-Some.ensures.current c.value-value.ensures
    (c.may_close.ensures.may_not c.if-not-may_close.true) next r

pub returns-in_default-close-clause-stopped : goal.returns-in_default-close-clause-stopped
returns-in_default-close-clause-stopped c =
    can_close c.args.self.now c.args.k c.args.bound (c.in-Some.current).path (c.in-Some.current).place.place c.value-value.result c.in-Some.ensures.current (c.holds.ensures.0 c.if-not-holds.false) c.value-value.ensures
    (c.may_close.ensures.may c.if-not-may_close.false)
