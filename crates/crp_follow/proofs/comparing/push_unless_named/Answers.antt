use Rattle.std.proofs.Common.{map, subst}
use Rattle.std.specs.Prelude.{◌≡◌, IfOk}
use Rattle.crp_follow.specs.Views.{bay_followed}
use Rattle.crp_follow.proofs.ComparingSteps.{alone_written, not_alone}
use Rattle.crp_follow.proofs.comparing.push_unless_named.Goals as goal

pub returns-in-Some : goal.returns-in-Some
returns-in-Some c = not_alone (map bay_followed c.args.firsts.now) (bay_followed c.args.bay.now) _ c.args.table c.in-Some.ensures

pub returns-in-None : goal.returns-in-None
returns-in-None c =
    subst (λ t. IfOk c.push_second.result (λ longer. longer ≡ t)) (alone_written (map bay_followed c.args.firsts.now) (bay_followed c.args.bay.now) c.args.table c.in-None.ensures) c.push_second.ensures
