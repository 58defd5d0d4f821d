use Rattle.std.proofs.Common.{◌≤◌, ◌∙◌, ap, arith}
use Rattle.crp_plan.specs.Running.{after_claim}
use Rattle.crp_plan.proofs.Steps.{unfinished}
use Rattle.crp_steps.specs.Worlds.{World}
use Rattle.crp_steps.proofs.Acts.{claims_not_finished, tries, try_as_claim, both}
use Rattle.crp_steps.proofs.state.State.try_branch.Goals as goal

pub returns-in_default-clause-stopped : goal.returns-in_default-clause-stopped
returns-in_default-clause-stopped c = λ next r. c.in_default.ensures.none r.path r.place (record { worker = r.worker; acts = r.acts; others = r.others; current = r.current })

pub returns-then-is_done-clause-stopped : goal.returns-then-is_done-clause-stopped
returns-then-is_done-clause-stopped c = λ next r.
    let claim = try_as_claim c.args.self.now c.args.k next r in
    claims_not_finished c.args.self.now c.args.k (c.in-Some.current).path (c.in-Some.current).place.place c.in-Some.ensures.problem c.in-Some.ensures.current (c.is_done.ensures.done.0 c.if-is_done.true) claim.0 claim.1

pub returns-clause-done : goal.returns-clause-done
returns-clause-done c =
    let h = c.in-Some.ensures.current in
    let s = (c.in-Some.current).place.place in
    let going : s.next ≤ s.ordered = unfinished c.args.self.now.rules.problem (c.in-Some.current).path s h.current.is_at (λ f. both c.is_done.result (c.is_done.ensures.done.1 f) c.if-is_done.false) in
    tries c.args.self.now c.meet.new.self c.args.k (c.in-Some.current).path s c.words-words.result c.claim-granted.new.self h going (omega arith) c.words-words.ensures
    (c.claim-granted.ensures.step ∙ ap (λ (w : World). after_claim w.rules.budget c.words-words.result) c.self.view_is) c.meet.ensures
