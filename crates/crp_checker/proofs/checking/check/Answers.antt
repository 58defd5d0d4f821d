use Rattle.std.proofs.Common.{None}
use Rattle.std.proofs.lemmas.Result.{err_from_is_err_and}
use Rattle.crp_checker.proofs.Meaning.{says_of_head, bound_of_head, none_of_head}
use Rattle.crp_checker.proofs.SameText.{rejected}
use Rattle.crp_checker.proofs.checking.check.Goals as goal

pub returns-in_err-_bay-clause-rejected : goal.returns-in_err-_bay-clause-rejected
returns-in_err-_bay-clause-rejected c =
    let p = err_from_is_err_and c.from_residual.result c.from_residual.ensures.1 in
    rw (p.1, p.2) (rejected None c.args.bytes.now c.in_err-_bay.field-0.0 c.in_err-_bay.ensures.refused)

pub returns-clause-bound : goal.returns-clause-bound
returns-clause-bound c head moves of plan =
    let shown = c.in_ok-_bay.ensures.shown in
    bound_of_head None c.args.bytes.now shown.0 head moves shown.1 of plan

pub returns-clause-none : goal.returns-clause-none
returns-clause-none c head moves of most plan =
    let shown = c.in_ok-_bay.ensures.shown in
    none_of_head None c.args.bytes.now shown.0 head moves shown.1 of most plan

pub returns-clause-says : goal.returns-clause-says
returns-clause-says c head of =
    let shown = c.in_ok-_bay.ensures.shown in
    says_of_head None c.args.bytes.now shown.0 c.in_ok-_bay.verdict head shown.1 shown.3 of
