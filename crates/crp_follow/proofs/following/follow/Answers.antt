use Rattle.std.proofs.Common.{map}
use Rattle.std.proofs.lemmas.Result.{err_from_is_err_and}
use Rattle.crp_follow.specs.Views.{bay_stated, bay_followed}
use Rattle.crp_follow.proofs.Outcomes.{memory_of_text, memory_of_bays, followed_refuses_none}
use Rattle.crp_follow.proofs.following.follow.Goals as goal

pub returns-in_err-numbers-clause-accepts : goal.returns-in_err-numbers-clause-accepts
returns-in_err-numbers-clause-accepts c numbers bays is =
    let p = err_from_is_err_and c.from_residual.result c.from_residual.ensures.1 in
    rw (p.1, p.2) (memory_of_text c.args.yard.now c.args.report.now numbers bays c.in_err-numbers.field-0.0 is c.in_err-numbers.ensures.wrong)

pub returns-in_err-bays-clause-accepts : goal.returns-in_err-bays-clause-accepts
returns-in_err-bays-clause-accepts c numbers bays is =
    let p = err_from_is_err_and c.from_residual-in_err-bays.result c.from_residual-in_err-bays.ensures.1 in
    rw (p.1, p.2) (memory_of_bays c.args.yard.now c.args.report.now numbers c.in_ok-numbers.numbers bays (map bay_stated c.in_ok-numbers.bays.items) c.in_err-bays.field-0.0 is c.in_ok-numbers.ensures.stated
    c.in_err-bays.ensures.wrong)

pub returns-clause-refuses : goal.returns-clause-refuses
returns-clause-refuses c fault first =
    absurd (followed_refuses_none c.args.yard.now c.args.report.now c.in_ok-numbers.numbers (map bay_stated c.in_ok-numbers.bays.items) (map bay_followed c.in_ok-bays.bays.items) fault
    c.in_ok-numbers.ensures.stated c.in_ok-bays.ensures.followed first)
