use Rattle.std.proofs.Common.{◌∙◌, map, sym}
use Rattle.std.proofs.lemmas.Result.{err_from_is_err_and}
use Rattle.crp_follow.specs.Views.{bay_followed}
use Rattle.crp_commands.proofs.Traced.{not_followed, not_loaded}
use Rattle.crp_commands.proofs.following.followed_in.Goals as goal

pub returns-in_err-followed-clause-refused : goal.returns-in_err-followed-clause-refused
returns-in_err-followed-clause-refused c =
    let p = err_from_is_err_and c.from_residual.result c.from_residual.ensures.1 in
    rw (p.1, p.2) (not_followed c.args.part.now c.args.input.now.ship c.args.input.now.yard c.args.report.now c.in_err-followed.field-0.0 c.in_err-followed.ensures.refused)

pub returns-in_err-check_takes-clause-refused : goal.returns-in_err-check_takes-clause-refused
returns-in_err-check_takes-clause-refused c =
    let p = err_from_is_err_and c.from_residual-in_err-check_takes.result c.from_residual-in_err-check_takes.ensures.1 in
    let whole = c.in_ok-followed.followed in
    rw (p.1, p.2) (not_loaded c.args.part.now c.args.input.now.ship c.args.input.now.yard c.args.report.now whole.numbers (map bay_followed whole.bays.items) c.in_err-check_takes.field-0.0
    c.in_ok-followed.ensures.followed c.in_err-check_takes.ensures.wrong)

pub returns-in-Some-clause-refused : goal.returns-in-Some-clause-refused
returns-in-Some-clause-refused c =
    let whole = c.in_ok-followed.followed in (
      whole.numbers,
      map bay_followed whole.bays.items,
      (c.in_ok-followed.ensures.followed, c.in_ok-check_takes.ensures.right),
      sym c.first_unstated.ensures ∙ c.in-Some.is,
    )
