use Rattle.std.proofs.Common.{subst}
use Rattle.crp_sizes.specs.Sizes.{YardSizes}
use Rattle.crp_separated.specs.Inputs.{comma_list}
use Rattle.crp_yard.specs.Reading.{IsYardListOf}
use Rattle.crp_order.specs.declared.sequences.Mode.{Mode}
use Rattle.crp_jobs.specs.OtherSettings.{AreFitting}
use Rattle.crp_jobs.specs.Placed.{IsOfFront}
use Rattle.crp_jobs.proofs.AgainSteps.{some_by}
use Rattle.crp_jobs.proofs.other_settings.fit_largest.Goals as goal

pub returns : goal.returns
returns g c =
    let known = g.F.Files.known c.args.files.now in
    let names = c.args.names.now in
    let yard = c.in_ok-yard.yard in
    some_by c.fit_yard.result _ _ c.fit_yard.ensures (λ fit is. (
      yard,
      subst (λ (s : YardSizes). IsOfFront (known.given names.yard.now) (λ text. IsYardListOf s (comma_list names.separator text) yard)) c.largest.ensures c.in_ok-yard.ensures.listed,
      subst (λ (m : Mode). AreFitting known names c.args.settings.now yard m fit) c.mode.ensures is,
    ))
