use Rattle.std.proofs.Common.{Some, ◌∙◌, sym, ap, arith}
use Rattle.crp_jobs.proofs.CertificateSteps.{said_none, said_some}
use Rattle.crp_jobs.proofs.certificate_lines.certificate_text.Goals as goal

pub returns-in_default-line_numbered : goal.returns-in_default-line_numbered
returns-in_default-line_numbered c =
    sym (said_none c.args.number c.args.text.now c.in-Some.rest.now (omega (arith, c.if-number-lt2.false)) c.in-Some.ensures.there (sym c.in_default-line_numbered.ensures))

pub returns : goal.returns
returns c =
    ap Some c.in_ok-begins_text.ensures
    ∙ sym (said_some c.args.number c.in-Some.passed c.args.text.now c.in-Some.rest.now c.in-Some-line_numbered.line.now (omega (arith, c.if-number-lt2.false)) c.in-Some.ensures.there c.in-Some.ensures.passed
    (sym c.in-Some-line_numbered.ensures))
