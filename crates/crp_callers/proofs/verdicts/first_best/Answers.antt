use Rattle.std.proofs.Common.{None, subst, refl}
use Rattle.crp_checker.specs.declared.verdict.Verdict.TheVariants.{First}
use Rattle.crp_checker.specs.Shown.{TextShows}
use Rattle.crp_callers.proofs.verdicts.first_best.Goals as goal

pub returns : goal.returns
returns c =
    let count = c.in-Ok-First.count in
    let law = c.first_is_best.ensures in
    let shows : TextShows None c.args.bytes.now (First count) = subst (TextShows None c.args.bytes.now) c.in-Ok-First.field-0-is c.in-Ok-First.ensures.accepted in
    (shows.0, shows.1.is_text, law.plan None c.args.bytes.now shows.0 count shows.1 ((law.verdict shows.0 (First count) count shows.2).0 refl))
