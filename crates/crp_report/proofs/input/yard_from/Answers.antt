use Rattle.std.proofs.Common.{◌≤◌, Err, ap, length, arith}
use Rattle.std.proofs.lemmas.Result.{err_from_is_err_and}
use Rattle.crp_yard.specs.Faults.{max_bytes}
use Rattle.crp_yard.specs.Reading.{IsTextOf}
use Rattle.crp_report.proofs.Refusing.{list_too_large, yard_refused}
use Rattle.crp_report.proofs.input.yard_from.Goals as goal

pub returns-in-Err-TooLarge-clause-refused : goal.returns-in-Err-TooLarge-clause-refused
returns-in-Err-TooLarge-clause-refused g c =
    ((λ e. cc e), (λ e. cc e), list_too_large c.args.sizes.now (g.Y.Source.remaining c.args.source.now) (c.in-Err-TooLarge.ensures.large (ap Err c.in-Err-TooLarge.field-0-is)))

pub returns-in_err-yard-clause-refused : goal.returns-in_err-yard-clause-refused
returns-in_err-yard-clause-refused g c =
    let p = err_from_is_err_and c.from_residual.result c.from_residual.ensures.1 in
    let short : length c.deref.result.now ≤ max_bytes = omega (arith, c.deref.ensures.len, c.in-Ok.ensures.within) in
    let given : IsTextOf (g.Y.Source.remaining c.args.source.now) c.deref.result.now = rw c.deref.ensures.value c.in-Ok.ensures.all in
    rw (p.1, p.2) (yard_refused c.args.sizes.now (g.Y.Source.remaining c.args.source.now) (g.Y.Source.failures c.args.source.now) (g.Y.Source.failures c.read_all.new.reader)
    c.deref.result.now c.in_err-yard.field-0.0 short given c.in_err-yard.ensures.refused)
