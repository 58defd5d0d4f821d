use Rattle.std.proofs.Common.{◌≡◌, ◌∙◌, true, false, subst, ap}
use Rattle.std.proofs.lemmas.Result.{err_from_is_err_and}
use Rattle.crp_plan.specs.Bay.{cap}
use Rattle.crp_audit.specs.Headline.{verdict_said}
use Rattle.crp_order.specs.declared.bay_problem.BayProblem.{BayProblem}
use Rattle.crp_said.specs.Views.{bay_as}
use Rattle.crp_audit.specs.Certified.{SaysThis, IsLinesFault, IsCertificateFault}
use Rattle.crp_audit.specs.Stops.{StopsAt}
use Rattle.crp_audit.specs.Faults.{IsOutside}
use Rattle.crp_audit.proofs.Bays.{bay_true, nothing_claimed, lines_fault, certificate_stops}
use Rattle.crp_audit.proofs.auditing.audit_bay.Goals as goal

pub returns-then-is_outside-clause-wrong : goal.returns-then-is_outside-clause-wrong
returns-then-is_outside-clause-wrong g c =
    let s = bay_as c.args.said.now in
    let (left, is) = c.requires.some in
    (left, is, λ h bay same name. nothing_claimed h bay s left c.args.front.now.items c.copy.result (c.is_outside.ensures.0 c.if-is_outside.true) (c.copy.ensures ∙ name))

pub returns-in_err-rows-clause-wrong : goal.returns-in_err-rows-clause-wrong
returns-in_err-rows-clause-wrong g c =
    let p = err_from_is_err_and c.from_residual-in_err-rows.result c.from_residual-in_err-rows.ensures.1 in
    let s = bay_as c.args.said.now in
    let f = c.in_err-rows.field-0.0 in
    let claimed : ¬ IsOutside c.args.said.now.said = λ outside.
    let t : c.is_outside.result ≡ true = c.is_outside.ensures.1 outside in
    let f : c.is_outside.result ≡ false = c.if-is_outside.false in cc in
    let (left, is) = c.requires.some in
    rw (p.1, p.2) (
      left,
      is,
      λ h bay same name. lines_fault h bay c.args.stated.now s left c.args.front.now.items f claimed same name
          (subst (λ l. IsLinesFault c.args.stated.now s l f) (c.deref.ensures.value ∙ c.in_ok-push_bay_line.ensures) c.in_err-rows.ensures.wrong),
    )

pub returns-in_err-found-clause-wrong : goal.returns-in_err-found-clause-wrong
returns-in_err-found-clause-wrong g c =
    let p = err_from_is_err_and c.from_residual-in_err-found.result c.from_residual-in_err-found.ensures.1 in
    let known = g.R.Source.remaining c.args.source.now in
    let claimed : ¬ IsOutside c.args.said.now.said = λ outside.
    let t : c.is_outside.result ≡ true = c.is_outside.ensures.1 outside in
    let f : c.is_outside.result ≡ false = c.if-is_outside.false in cc in
    rw (p.1, p.2) (certificate_stops known c.args.unread c.args.stated.now (bay_as c.args.said.now) c.in_ok-rows.rows.items c.args.front.now.items c.in_err-found.field-0.0 claimed
    c.requires.named c.in_ok-rows.ensures.right
    (subst (λ rows. StopsAt known c.args.unread (IsCertificateFault c.args.stated.now c.args.said.now.said rows) c.in_err-found.field-0.0) c.deref-3.ensures.value c.in_err-found.ensures.wrong))

pub returns-clause-right : goal.returns-clause-right
returns-clause-right g c =
    let (text, script, taken, is, says, verdict) = c.in_ok-found.ensures.right in (
      text,
      taken,
      λ h bay same. (
        bay_true h bay c.args.stated.now (bay_as c.args.said.now) text c.in_ok-rows.rows.items script same c.requires.named c.in_ok-rows.ensures.right is
            (subst (λ rows. SaysThis c.args.stated.now c.args.said.now.said rows script) c.deref-3.ensures.value says),
        verdict ∙ ap (λ (st : BayProblem). verdict_said (cap st.problem) c.args.said.now.said) same,
      ),
    )
