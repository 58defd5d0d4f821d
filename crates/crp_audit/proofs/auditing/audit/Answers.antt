use Rattle.std.proofs.Common.{◌∙◌}
use Rattle.crp_audit.proofs.NoFault.{complete}
use Rattle.crp_audit.proofs.auditing.audit.Goals as goal

pub returns-in-Ok-clause-accepted : goal.returns-in-Ok-clause-accepted
returns-in-Ok-clause-accepted g c =
    let (text, within, given, done) = c.in-Ok.ensures.accepted in
    let (is, shown) = done in (text, within, given, (is, c.of.ensures ∙ shown))

pub returns-in-Err-clause-complete : goal.returns-in-Err-clause-complete
returns-in-Err-clause-complete g c =
    complete c.args.yard.now c.args.orders.now c.args.sequence.now c.args.report.now (g.R.Source.remaining c.args.certificates.now) c.args.limit _ _ c.audit_into.new.shown.items c.in-Err.stop
    c.requires.named c.in-Err.ensures.refused
