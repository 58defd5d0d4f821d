use Rattle.std.proofs.Common.{⊎_elim, List, ℕ, arith, inl, refl, sym, subst}
use Rattle.std.specs.List.{AllByRecursion}
use Rattle.std.proofs.lemmas.Result.{err_from_is_err_and}
use Rattle.crp_yard.specs.Inventory.{Inventory}
use Rattle.crp_yard.specs.Naming.{IsNamedBay}
use Rattle.crp_audit.specs.Headline.{Handed, handed}
use Rattle.crp_report.specs.Runs.{sink_seen, source_seen}
use Rattle.crp_commands.specs.Audit.{AuditChosen, AuditSeen, IsHandedIn}
use Rattle.crp_commands.specs.Partial.{IsReportIn}
use Rattle.crp_jobs.specs.declared.outcome.Statement.TheVariants as statement
use Rattle.crp_commands.proofs.Audited.{in_hand, unread, stopped}
use Rattle.crp_commands.proofs.Replayed.{keeps_same}
use Rattle.crp_commands.proofs.auditing.audit.Goals as goal

pub returns-in_err-text-clause-ended : goal.returns-in_err-text-clause-ended
returns-in_err-text-clause-ended g c =
    let p = err_from_is_err_and c.from_residual-in_err-text.result c.from_residual-in_err-text.ensures.1 in
    let input = c.in_ok-input.input in
    let seen : AuditSeen = record {
      yard = source_seen g.Y.Source.remaining g.Y.Source.failures c.args.yard.now c.input_from.new.yard;
      movins = source_seen g.M.Source.remaining g.M.Source.failures c.args.movins.now c.input_from.new.movins;
      report = source_seen g.R.Source.remaining g.R.Source.failures c.args.report.now c.report_from.new.source;
      certificates = source_seen g.C.Source.remaining g.C.Source.failures c.args.certificates.now c.args.certificates.now;
      out = sink_seen g.W.Sink.contents g.W.Sink.failures c.args.out.now c.args.out.now;
    } in
    rw (p.1, p.2) (
      unread (record { input = c.args.settings.now.input.now; partial = c.args.settings.now.partial }) seen statement.Report c.in_err-text.field-0.0 (keeps_same _) (input.yard, input.orders, input.sequence, c.in_ok-input.ensures.read) c.in_err-text.ensures.refused,
      omega (arith, c.in_ok-input.ensures.counted, c.in_err-text.ensures.counted, c.in_err-text.ensures.count, c.in_err-text.ensures.passed),
    )

pub returns-in_err-part-clause-ended : goal.returns-in_err-part-clause-ended
returns-in_err-part-clause-ended g c =
    let p = err_from_is_err_and c.from_residual-in_err-part.result c.from_residual-in_err-part.ensures.1 in
    rw (p.1, p.2) (
      inl (keeps_same _),
      omega (arith, c.in_ok-input.ensures.counted, c.in_ok-text.ensures.counted, c.in_ok-text.ensures.count, c.in_ok-text.ensures.passed),
    )

pub audit_input-requires-clause-named : goal.audit_input-requires-clause-named
audit_input-requires-clause-named g c =
    subst (λ (y : Inventory). AllByRecursion IsNamedBay y.bays) (sym c.in_ok-part.ensures.same.0) c.in_ok-input.ensures.named

pub returns-in_err-audit_input-clause-ended : goal.returns-in_err-audit_input-clause-ended
returns-in_err-audit_input-clause-ended g c =
    let p = err_from_is_err_and c.from_residual-in_err-audit_input.result c.from_residual-in_err-audit_input.ensures.1 in
    let input = c.in_ok-input.input in
    let part = c.in_ok-part.part in
    let report : List ℕ = c.deref.result.now in
    let chosen : AuditChosen = record { input = c.args.settings.now.input.now; partial = c.args.settings.now.partial } in
    let seen : AuditSeen = record {
      yard = source_seen g.Y.Source.remaining g.Y.Source.failures c.args.yard.now c.input_from.new.yard;
      movins = source_seen g.M.Source.remaining g.M.Source.failures c.args.movins.now c.input_from.new.movins;
      report = source_seen g.R.Source.remaining g.R.Source.failures c.args.report.now c.report_from.new.source;
      certificates = source_seen g.C.Source.remaining g.C.Source.failures c.args.certificates.now c.audit_input.new.certificates;
      out = sink_seen g.W.Sink.contents g.W.Sink.failures c.args.out.now c.audit_input.new.out;
    } in
    let f = c.in_err-audit_input.field-0.0 in
    let (bays, whole, sequence) = c.in_ok-part.ensures.part in
    let is_report = subst (λ l. IsReportIn chosen.partial c.in_ok-text.text.items l bays) (sym c.deref.ensures.value) whole in
    rw (p.1, p.2) (
      ⊎_elim (λ k. unread chosen seen statement.Certificates f k.0 (input.yard, input.orders, input.sequence, c.in_ok-input.ensures.read) k.1)
          (λ k.
          let (text, given, stops) = k in
          let h : Handed = handed part.yard part.orders part.sequence report text in
          let is : IsHandedIn chosen seen h =
          in_hand chosen seen input.yard part.yard input.orders part.orders input.sequence part.sequence c.in_ok-text.text.items report text bays c.in_ok-input.ensures.read c.in_ok-text.ensures.read
          is_report c.in_ok-part.ensures.same.0 c.in_ok-part.ensures.same.1 sequence given in
          stopped chosen seen h f is stops)
          c.in_err-audit_input.ensures.ended,
      omega (
        arith,
        c.in_ok-input.ensures.counted,
        c.in_ok-text.ensures.counted,
        c.in_ok-text.ensures.count,
        c.in_err-audit_input.ensures.counted,
        c.in_err-audit_input.ensures.count,
        c.in_err-audit_input.ensures.passed,
      ),
    )

pub returns-clause-ended : goal.returns-clause-ended
returns-clause-ended g c =
    let input = c.in_ok-input.input in
    let part = c.in_ok-part.part in
    let report : List ℕ = c.deref.result.now in
    let chosen : AuditChosen = record { input = c.args.settings.now.input.now; partial = c.args.settings.now.partial } in
    let seen : AuditSeen = record {
      yard = source_seen g.Y.Source.remaining g.Y.Source.failures c.args.yard.now c.input_from.new.yard;
      movins = source_seen g.M.Source.remaining g.M.Source.failures c.args.movins.now c.input_from.new.movins;
      report = source_seen g.R.Source.remaining g.R.Source.failures c.args.report.now c.report_from.new.source;
      certificates = source_seen g.C.Source.remaining g.C.Source.failures c.args.certificates.now c.audit_input.new.certificates;
      out = sink_seen g.W.Sink.contents g.W.Sink.failures c.args.out.now c.audit_input.new.out;
    } in
    let (text, within, done) = c.in_ok-audit_input.ensures.ended in
    let h : Handed = handed part.yard part.orders part.sequence report text in
    let (bays, whole, sequence) = c.in_ok-part.ensures.part in
    let is_report = subst (λ l. IsReportIn chosen.partial c.in_ok-text.text.items l bays) (sym c.deref.ensures.value) whole in
    let handed_in : IsHandedIn chosen seen h =
    in_hand chosen seen input.yard part.yard input.orders part.orders input.sequence part.sequence c.in_ok-text.text.items report text bays c.in_ok-input.ensures.read c.in_ok-text.ensures.read
    is_report c.in_ok-part.ensures.same.0 c.in_ok-part.ensures.same.1 sequence within.1 in (
      refl,
      (h, handed_in, within.0, done),
      omega (
        arith,
        c.in_ok-input.ensures.counted,
        c.in_ok-text.ensures.counted,
        c.in_ok-text.ensures.count,
        c.in_ok-audit_input.ensures.counted,
        c.in_ok-audit_input.ensures.count,
        c.in_ok-audit_input.ensures.passed,
      ),
    )
