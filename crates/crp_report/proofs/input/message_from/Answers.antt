use Rattle.std.proofs.Common.{Err, ap, refl}
use Rattle.crp_report.proofs.Refusing.{longer}
use Rattle.crp_report.proofs.input.message_from.Goals as goal

pub returns-in-Err-TooLarge-clause-refused : goal.returns-in-Err-TooLarge-clause-refused
returns-in-Err-TooLarge-clause-refused g c =
    let (text, given, long) = longer 8388608 (g.M.Source.remaining c.args.source.now) (c.in-Err-TooLarge.ensures.large (ap Err c.in-Err-TooLarge.field-0-is)) in
    (text, given, ((λ e. cc e), (long, refl)))
