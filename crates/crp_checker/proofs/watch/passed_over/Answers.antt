use Rattle.std.proofs.Common.{List, ℕ, ◌++◌, take, sym, subst}
use Rattle.crp_checker.specs.Watches.{IsUnended}
use Rattle.crp_checker.proofs.Watching.{last_goes_on, other_goes_on}
use Rattle.crp_checker.proofs.watch.passed_over.Goals as goal

pub returns-in-Last-clause-on : goal.returns-in-Last-clause-on
returns-in-Last-clause-on c text un =
    let piece : List ℕ = take c.line_len.result c.args.bytes.now in
    subst (IsUnended (text ++ piece)) (sym c.in-Last.is) (last_goes_on text piece c.line_len.ensures.line (subst (IsUnended text) c.in-Last.is un))

pub returns-in-Other-clause-on : goal.returns-in-Other-clause-on
returns-in-Other-clause-on c text un =
    let piece : List ℕ = take c.line_len-in-Other.result c.args.bytes.now in
    subst (IsUnended (text ++ piece)) (sym c.in-Other.is) (other_goes_on text piece c.line_len-in-Other.ensures.line (subst (IsUnended text) c.in-Other.is un))
