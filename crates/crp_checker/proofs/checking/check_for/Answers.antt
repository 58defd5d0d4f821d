use Rattle.std.proofs.Common.{◌≡◌, ◌⊎◌, Some, [], inl, inr, ⊎_elim, sym, ap, ◌∙◌, subst}
use Rattle.std.proofs.lemmas.Result.{err_from_is_err_and}
use Rattle.crp_plan.specs.Bay.{cap, IsPlan}
use Rattle.crp_cert.specs.declared.head.Head.{Head}
use Rattle.crp_cert.specs.Text.{IsHeadOf}
use Rattle.crp_checker.specs.declared.refused.Refused.TheVariants as refused
use Rattle.crp_checker.specs.Verdicts.{Says}
use Rattle.crp_checker.specs.Shown.{TextShows}
use Rattle.crp_checker.specs.Refusals.{IsRefusal}
use Rattle.crp_checker.proofs.Meaning.{says_from, bound_of_head, none_of_head, head_is}
use Rattle.crp_checker.proofs.SameText.{rejected}
use Rattle.crp_checker.proofs.checking.check_for.Goals as goal
use Rattle.crp_checker.proofs.checking.check_for.Goals.{In_ok-verdict, In_err-verdict}

-- what the text shows
shown : (c : In_ok-verdict) → TextShows (Some c.args.problem.now) c.args.bytes.now c.in_ok-verdict.verdict
shown c = c.in_ok-verdict.ensures.accepted (Some c.args.problem.now) c.args.bytes.now (c.in_ok-feed.ensures.read (Some c.args.problem.now) [] c.new-checker.ensures)

-- the problem of its head is the one that is asked for
same : (c : In_ok-verdict) (head : Head) → IsHeadOf c.args.bytes.now head → c.args.problem.now ≡ head.problem
same c head of = let text = shown c in text.1.as_wanted ∙ sym (ap (λ h. h.problem) (head_is c.args.bytes.now text.0 head text.1.is_text of))

why : (c : In_err-verdict) → (c.in_err-verdict.field-0.0 ≡ refused.Memory) ⊎ IsRefusal (Some c.args.problem.now) c.args.bytes.now c.in_err-verdict.field-0.0
why c = ⊎_elim (λ memory. inl memory)
    (λ k. inr (k (Some c.args.problem.now) c.args.bytes.now (c.in_ok-feed.ensures.read (Some c.args.problem.now) [] c.new-checker.ensures))) c.in_err-verdict.ensures.refused

pub returns-in_err-verdict-clause-refused : goal.returns-in_err-verdict-clause-refused
returns-in_err-verdict-clause-refused c =
    let d = (goal.at.returns-in_err-verdict-clause-refused c).In_err-verdict in
    let p = err_from_is_err_and c.from_residual-in_err-verdict.result c.from_residual-in_err-verdict.ensures.1 in
    rw (p.1, p.2) (why d)

pub returns-in_err-verdict-clause-rejected : goal.returns-in_err-verdict-clause-rejected
returns-in_err-verdict-clause-rejected c =
    let d = (goal.at.returns-in_err-verdict-clause-rejected c).In_err-verdict in
    let p = err_from_is_err_and c.from_residual-in_err-verdict.result c.from_residual-in_err-verdict.ensures.1 in
    rw (p.1, p.2) (rejected (Some c.args.problem.now) c.args.bytes.now c.in_err-verdict.field-0.0 (why d))

pub returns-clause-accepted : goal.returns-clause-accepted
returns-clause-accepted c = shown ((goal.at.returns-clause-accepted c).In_ok-verdict)

pub returns-clause-bound : goal.returns-clause-bound
returns-clause-bound c head moves of plan =
    let d = (goal.at.returns-clause-bound c).In_ok-verdict in
    let text = shown d in
    bound_of_head (Some c.args.problem.now) c.args.bytes.now text.0 head moves text.1 of (subst (λ p. IsPlan p moves) (same d head of) plan)

pub returns-clause-none : goal.returns-clause-none
returns-clause-none c head moves of most plan =
    let d = (goal.at.returns-clause-none c).In_ok-verdict in
    let text = shown d in
    none_of_head (Some c.args.problem.now) c.args.bytes.now text.0 head moves text.1 of (most ∙ ap cap (same d head of)) (subst (λ p. IsPlan p moves) (same d head of) plan)

pub returns-clause-says : goal.returns-clause-says
returns-clause-says c =
    let d = (goal.at.returns-clause-says c).In_ok-verdict in
    let text = shown d in
    subst (λ p. Says p c.in_ok-verdict.verdict) (sym text.1.as_wanted) (says_from text.0 c.in_ok-verdict.verdict text.1.accepted text.2)
