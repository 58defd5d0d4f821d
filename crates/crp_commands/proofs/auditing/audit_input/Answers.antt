use Rattle.std.proofs.Common.{◌∙◌, ⊎_elim, ap, inl, inr, subst}
use Rattle.std.proofs.lemmas.Result.{err_from_is_err_and}
use Rattle.crp_plan.proofs.Interruptions.{has_failed}
use Rattle.crp_report.specs.Runs.{SinkSeen, Gets, sink_seen}
use Rattle.crp_audit.specs.Headline.{handed}
use Rattle.crp_commands.specs.Audit.{audit_text}
use Rattle.crp_commands.proofs.auditing.audit_input.Goals as goal

pub returns-in_err-write_all-in-Ok-clause-ended : goal.returns-in_err-write_all-in-Ok-clause-ended
returns-in_err-write_all-in-Ok-clause-ended g c =
    let p = err_from_is_err_and c.from_residual-in_err-write_all-in-Ok.result c.from_residual-in_err-write_all-in-Ok.ensures.1 in
    let (text, within, given, done) = c.in-Ok.ensures.accepted in
    let (is, shown) = done in
    rw (p.1, p.2) (inr (
      text,
      given,
      (
        has_failed c.in_err-write_all-in-Ok.ensures.gave_up,
        (c.deref.result.now, inl (is, c.deref.ensures.value ∙ c.in_ok-text-in-Ok.ensures ∙ ap audit_text shown), c.in_err-write_all-in-Ok.ensures.part),
      ),
    ))

pub returns-in_ok-write_all-in-Ok-clause-ended : goal.returns-in_ok-write_all-in-Ok-clause-ended
returns-in_ok-write_all-in-Ok-clause-ended g c =
    let (text, within, given, done) = c.in-Ok.ensures.accepted in
    let (is, shown) = done in
    let out : SinkSeen = sink_seen g.W.Sink.contents g.W.Sink.failures c.args.out.now c.write_all.new.writer in
    (text, (within, given), (is, subst (Gets out) (c.deref.ensures.value ∙ c.in_ok-text-in-Ok.ensures ∙ ap audit_text shown) c.in_ok-write_all-in-Ok.ensures.all))

pub returns-in-Err-clause-ended : goal.returns-in-Err-clause-ended
returns-in-Err-clause-ended g c =
    let input = c.args.input.now in
    let (text, given, why) = c.in-Err.ensures.refused in
    ⊎_elim (λ k. inl k) (λ k. inr (text, given, k)) (c.stop.ensures.stated (handed input.yard input.orders input.sequence c.args.report.now text) _ _ _ given why)
