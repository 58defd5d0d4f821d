use Rattle.std.proofs.Common.{None, subst}
use Rattle.crp_checker.specs.declared.verdict.Verdict.TheVariants.{Optimal}
use Rattle.crp_checker.specs.Shown.{TextShows}
use Rattle.crp_callers.proofs.verdicts.fewest.Goals as goal

pub returns : goal.returns
returns c =
    let shown = Optimal c.in-Ok-Optimal.count in
    let shows : TextShows None c.args.bytes.now shown = subst (TextShows None c.args.bytes.now) c.in-Ok-Optimal.field-0-is c.in-Ok-Optimal.ensures.accepted in
    (shows.0, shows.1.is_text, c.verdicts_say.ensures shows.0 shown shows.1.accepted shows.2)
