use Rattle.std.proofs.Common.{[]}
use Rattle.std.specs.Prelude.{codes}
use Rattle.crp_cert.specs.declared.fault.CertFault.TheVariants.{Opening}
use Rattle.crp_checker.specs.declared.refused.Refused.TheVariants.{Cert}
use Rattle.crp_callers.proofs.SmallFiles.{title_refused}
use Rattle.crp_callers.proofs.verdicts.check_no_certificate.Goals as goal

pub unreachable-requires : goal.unreachable-requires
unreachable-requires c = c.shown_or_refused.ensures.apart (codes "CRP") c.in-Ok.field-0 [] 1 (Cert (Opening 1)) (λ e. cc) c.in-Ok.ensures.shown title_refused

pub returns : goal.returns
returns c =
    let law = c.shown_or_refused.ensures.one_refusal in
    let refusal = c.in-Err.refusal in
    let same = law (codes "CRP") refusal.before [] refusal.number 1 refusal.refused (Cert (Opening 1)) c.in_default.not-Memory (λ e. cc) c.in-Err.ensures.refused title_refused in
    λ i. (same.1 i, same.2 i)
