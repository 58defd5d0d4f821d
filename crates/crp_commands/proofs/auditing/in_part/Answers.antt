use Rattle.std.proofs.Common.{None, Some, refl, subst, sym}
use Rattle.std.proofs.lemmas.Result.{IfOk-weaker}
use Rattle.crp_commands.specs.Partial.{IsReportIn}
use Rattle.crp_commands.proofs.Noted.{noted_part}
use Rattle.crp_commands.proofs.auditing.in_part.Goals as goal

pub returns-in-None-clause-part : goal.returns-in-None-clause-part
returns-in-None-clause-part g c =
    (None, subst (IsReportIn c.args.partial c.args.text.items c.in_ok-whole.whole.text.items) c.in-None.is c.in_ok-whole.ensures.report, refl)

pub returns-in-Some-clause-part : goal.returns-in-Some-clause-part
returns-in-Some-clause-part g c =
    let report = subst (IsReportIn c.args.partial c.args.text.items c.in_ok-whole.whole.text.items) c.in-Some.is c.in_ok-whole.ensures.report in
    IfOk-weaker c.first_part.result _ _
    (λ x part. (Some c.in-Some.bays, subst (λ l. IsReportIn c.args.partial c.args.text.items l (Some c.in-Some.bays)) (sym part.1) report, part.0)) c.first_part.ensures.part

pub returns-in-Some-clause-noted : goal.returns-in-Some-clause-noted
returns-in-Some-clause-noted g c =
    noted_part c.args.partial c.args.text.items c.in_ok-whole.whole.text.items c.in-Some.bays _ _ _ _ _ _
    (subst (IsReportIn c.args.partial c.args.text.items c.in_ok-whole.whole.text.items) c.in-Some.is c.in_ok-whole.ensures.report) c.report_in.ensures.noted c.first_part.ensures.noted
