use Rattle.std.proofs.Common.{◌≤◌, ◌∙◌, arith, refl, ap}
use Rattle.std.proofs.lemmas.List.{take-replicate}
use Rattle.crp_sizes.specs.Sizes.{one_size}
use Rattle.crp_report.proofs.settings.InputSettings.new.Goals as goal

pub returns-clause-value : goal.returns-clause-value
returns-clause-value c =
    let few : c.args.rows ≤ 12 = omega arith in
    rw (c.of_heights.ensures ∙ ap one_size (take-replicate c.args.rows 12 c.args.tiers few), c.in_ok-loading.ensures, c.new-2.ensures.items) refl
