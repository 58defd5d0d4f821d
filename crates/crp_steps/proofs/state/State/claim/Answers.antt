use Rattle.std.proofs.Common.{◌≤◌, ◌∙◌, ap, arith}
use Rattle.crp_plan.specs.Running.{is_granted, after_claim}
use Rattle.crp_plan.proofs.Steps.{unfinished}
use Rattle.crp_steps.specs.Worlds.{World}
use Rattle.crp_steps.proofs.Acts.{can_claim, claims_not_finished, claims_refused, claims_granted, both}
use Rattle.crp_steps.proofs.state.State.claim.Goals as goal

pub returns-in_default-clause-stopped : goal.returns-in_default-clause-stopped
returns-in_default-clause-stopped c = λ next r. c.in_default.ensures.none r.path r.place (record { worker = r.worker; acts = r.acts; others = r.others; current = r.current })

pub returns-then-is_done-clause-stopped : goal.returns-then-is_done-clause-stopped
returns-then-is_done-clause-stopped c = λ next r.
    claims_not_finished c.args.self.now c.args.k (c.in-Some.current).path (c.in-Some.current).place.place c.in-Some.ensures.problem c.in-Some.ensures.current (c.is_done.ensures.done.0 c.if-is_done.true) next r

pub returns-then-not-claim-clause-done : goal.returns-then-not-claim-clause-done
returns-then-not-claim-clause-done c =
    let h = c.in-Some.ensures.current in
    let s = (c.in-Some.current).place.place in
    let going : s.next ≤ s.ordered = unfinished c.args.self.now.rules.problem (c.in-Some.current).path s h.current.is_at (λ f. both c.is_done.result (c.is_done.ensures.done.1 f) c.if-is_done.false) in
    claims_refused c.args.self.now c.meet.new.self c.args.k (c.in-Some.current).path s c.words-words.result c.claim.new.self c.claim.result h going (omega arith) c.words-words.ensures
    (c.claim.ensures.answer ∙ ap (λ (w : World). is_granted w.rules.budget c.words-words.result) c.self.view_is) c.if-not-claim.true
    (c.claim.ensures.step ∙ ap (λ (w : World). after_claim w.rules.budget c.words-words.result) c.self.view_is) c.meet.ensures

pub returns-clause-done : goal.returns-clause-done
returns-clause-done c =
    let h = c.in-Some.ensures.current in
    let s = (c.in-Some.current).place.place in
    let going : s.next ≤ s.ordered = unfinished c.args.self.now.rules.problem (c.in-Some.current).path s h.current.is_at (λ f. both c.is_done.result (c.is_done.ensures.done.1 f) c.if-is_done.false) in
    claims_granted c.args.self.now c.branch-self.new.self c.meet-2.new.self c.args.k (c.in-Some.current).path s c.words-words.result c.claim.new.self c.claim.result h going (omega arith) c.words-words.ensures
    (c.claim.ensures.answer ∙ ap (λ (w : World). is_granted w.rules.budget c.words-words.result) c.self.view_is) c.if-not-claim.false
    (c.claim.ensures.step ∙ ap (λ (w : World). after_claim w.rules.budget c.words-words.result) c.self.view_is) c.in_Ok-self.ensures.done c.meet-2.ensures

pub returns-in_default-self-clause-stopped : goal.returns-in_default-self-clause-stopped
returns-in_default-self-clause-stopped c =
    let h = c.in-Some.ensures.current in
    let s = (c.in-Some.current).place.place in
    let going : s.next ≤ s.ordered = unfinished c.args.self.now.rules.problem (c.in-Some.current).path s h.current.is_at (λ f. both c.is_done.result (c.is_done.ensures.done.1 f) c.if-is_done.false) in
    can_claim c.args.self.now c.args.k (c.in-Some.current).path s c.words-words.result h going (omega arith) c.words-words.ensures
