use Rattle.std.proofs.Common.{ℕ, List, Some, inl, inr, sym, subst}
use Rattle.crp_plan.specs.Bay.{cap}
use Rattle.crp_report.specs.Answered.{said_by}
use Rattle.crp_audit.specs.Headline.{verdict_said}
use Rattle.crp_headline.specs.Accepted.{IsAcceptedAs}
use Rattle.crp_callers.proofs.Outcomes.{ok_by, err_by, both_by}
use Rattle.crp_callers.proofs.audited_runs.check_of_answer.Goals as goal

pub returns : goal.returns
returns c = λ bay budget found expanded is answer text.
    let p = c.args.problem.now in
    let bytes = c.args.text.now in
    let (script, accepted, name, shows) = subst (λ (t : List ℕ). IsAcceptedAs t bay p found) (sym text) (c.answers_are_accepted.ensures bay p budget found expanded is answer) in
    both_by c.check_for.result _ _
    (ok_by c.check_for.result _ _ c.check_for.ensures.accepted (λ verdict shown.
    c.accepted_or_refused.ensures.one_verdict (Some p) bytes verdict (verdict_said (cap p) (said_by found)) shown (script, accepted, shows)))
    (err_by c.check_for.result _ _ c.check_for.ensures.refused (λ refused why. elim why [
      | inl memory ↦ memory
      | inr refusal ↦ absurd (c.accepted_or_refused.ensures.apart (Some p) bytes script refused accepted refusal)
    ]))
