use Rattle.std.proofs.Common.{◌≡◌, ◌≢◌, ◌∙◌, ⊎_elim, true, false, Err, sym, ap, subst, rules}
use Rattle.std.proofs.lemmas.Result.{err_from_is_err_and}
use Rattle.crp_plan.specs.Bay.{cap}
use Rattle.crp_plan.proofs.Interruptions.{transfers_on}
use Rattle.crp_checker.specs.declared.refused.Refused.TheVariants as refused
use Rattle.crp_checker.proofs.Meaning.{one_verdict_under}
use Rattle.crp_checker.proofs.Taken.{taken_since, too_long_since}
use Rattle.crp_audit.specs.Headline.{verdict_said, BearsOut}
use Rattle.crp_audit.specs.Certified.{IsPlanSaid}
use Rattle.crp_audit.proofs.Results.{ok_at, err_at}
use Rattle.crp_audit.proofs.Stopping.{read_stops, lacking_stops, refused_stops, other_stops}
use Rattle.crp_audit.proofs.certified.read_certificate.Goals as goal

pub returns-in_err-fill-clause-wrong : goal.returns-in_err-fill-clause-wrong
returns-in_err-fill-clause-wrong g c =
    let p = err_from_is_err_and c.from_residual.result c.from_residual.ensures.1 in
    rw (p.1, p.2) (read_stops _ c.args.unread c.args.stated.now c.args.said c.args.rows.now c.in_err-fill.field-0.0 c.requires.some (λ e. c.in_err-fill.ensures.large (ap Err e)))

pub returns-then-not-branch-clause-wrong : goal.returns-then-not-branch-clause-wrong
returns-then-not-branch-clause-wrong g c =
    let end = c.in_ok-fill.ensures.end c.if-not-branch.true in
    lacking_stops _ _ c.args.unread c.fill.new.self c.args.stated.now c.args.said c.args.rows.now _ c.copy.ensures c.in_ok-fill.ensures.same end.0

pub returns-in_err-answer-clause-wrong : goal.returns-in_err-answer-clause-wrong
returns-in_err-answer-clause-wrong g c =
    let p = err_from_is_err_and c.from_residual-in_err-answer.result c.from_residual-in_err-answer.ensures.1 in
    rw (p.1, p.2) (read_stops _ c.args.unread c.args.stated.now c.args.said c.args.rows.now c.in_err-answer.field-0.0 c.requires.some
    (λ e. too_long_since _ _ c.args.unread c.fill.new.self _ c.in_ok-fill.ensures.same (c.in_err-answer.ensures.large (ap Err e))))

pub returns-in-Err : goal.returns-in-Err
returns-in-Err g c =
    let (text, taken, read) = c.in_ok-answer.ensures.read in
    let other : c.in-Err.refused ≢ refused.Memory = search rules in
    let why = ⊎_elim (λ e. absurd (other e)) (λ k. k) (err_at c.in_ok-answer.answer c.in-Err.refused _ _ c.in-Err.is read) in
    record {
      right = tt;
      wrong = refused_stops _ _ c.args.unread c.in_ok-answer.unread c.args.stated.now c.args.said c.args.rows.now text _ c.in-Err.refused c.copy-in-Err.ensures
          (taken_since _ _ _ c.args.unread c.fill.new.self c.in_ok-answer.unread text c.in_ok-fill.ensures.same taken) other why;
      done = tt;
      stopped = transfers_on c.in_ok-fill.ensures.done c.in_ok-answer.ensures.done;
    }

pub returns-then-not-says_this-clause-wrong : goal.returns-then-not-says_this-clause-wrong
returns-then-not-says_this-clause-wrong g c =
    let (text, taken, read) = c.in_ok-answer.ensures.read in
    let (script, is, bay, plan, shows) = ok_at c.in_ok-answer.answer c.in-Ok.found _ _ c.in-Ok.is read in
    other_stops _ _ c.args.unread c.in_ok-answer.unread c.args.stated.now c.args.said c.args.rows.now text script _ c.copy-then-not-says_this.ensures
    (taken_since _ _ _ c.args.unread c.fill.new.self c.in_ok-answer.unread text c.in_ok-fill.ensures.same taken) is
    (λ says.
    let (v, also, bears) = says.verdict in
    let same : v ≡ c.in-Ok.found.verdict = one_verdict_under script.head.claim _ _ v c.in-Ok.found.verdict also shows in
    let here : BearsOut (cap c.args.stated.now.problem) c.args.said c.in-Ok.found.verdict = subst (BearsOut (cap c.args.stated.now.problem) c.args.said) same bears in
    let said : BearsOut c.cap-most.result c.args.said c.in-Ok.found.verdict = subst (λ most. BearsOut most c.args.said c.in-Ok.found.verdict) (sym c.cap-most.ensures.value) here in
    let t : c.says_this.result ≡ true = c.says_this.ensures.1 (sym bay ∙ says.bay, said, subst (λ p. IsPlanSaid c.args.said p c.args.rows.now) plan says.plan) in
    let f : c.says_this.result ≡ false = c.if-not-says_this.true in cc)

pub returns-clause-right : goal.returns-clause-right
returns-clause-right g c =
    let (text, taken, read) = c.in_ok-answer.ensures.read in
    let (script, is, bay, plan, shows) = ok_at c.in_ok-answer.answer c.in-Ok.found _ _ c.in-Ok.is read in
    let said : c.verdict_said.result ≡ verdict_said (cap c.args.stated.now.problem) c.args.said =
    c.verdict_said.ensures ∙ ap (λ most. verdict_said most c.args.said) c.cap-most.ensures.value in
    let same = c.says_this.ensures.0 c.if-not-says_this.false in
    let bears : BearsOut (cap c.args.stated.now.problem) c.args.said c.in-Ok.found.verdict = subst (λ most. BearsOut most c.args.said c.in-Ok.found.verdict) c.cap-most.ensures.value same.1 in (
      text,
      script,
      taken_since _ _ _ c.args.unread c.fill.new.self c.in_ok-answer.unread text c.in_ok-fill.ensures.same taken,
      is,
      record { bay = bay ∙ same.0; verdict = (c.in-Ok.found.verdict, shows, bears); plan = subst (λ p. IsPlanSaid c.args.said p c.args.rows.now) (sym plan) same.2 },
      said,
    )
