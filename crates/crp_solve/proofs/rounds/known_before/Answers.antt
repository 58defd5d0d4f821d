use Rattle.std.proofs.Common.{refl, arith}
use Rattle.crp_solve.proofs.rounds.known_before.Goals as goal

pub returns-in-Ok-clause-shown : goal.returns-in-Ok-clause-shown
returns-in-Ok-clause-shown c budget = c.in-Ok.ensures.shown budget 0 c.args.best c.requires (omega arith)

pub returns-in-Ok-clause-before : goal.returns-in-Ok-clause-before
returns-in-Ok-clause-before c =
    let shown = c.in-Ok.ensures.shown 0 0 c.args.best c.requires (omega arith) in
    record { about = shown.about; cut = c.in-Ok.ensures.cut; bound = c.in-Ok.ensures.bound; best = refl; none_yet = refl; goes_on = refl }
