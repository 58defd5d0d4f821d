use Rattle.std.proofs.Common.{◌++◌, ◌∷◌, [], sym, subst}
use Rattle.crp_checker.specs.Watches.{IsUnended}
use Rattle.crp_checker.specs.declared.watch.Watch.TheVariants.{Begun}
use Rattle.crp_checker.proofs.Watching.{line_ends, other_goes_on}
use Rattle.crp_checker.proofs.watch.next.Goals as goal

pub returns-in_default : goal.returns-in_default
returns-in_default c = record { on = λ text un. subst (λ b. IsUnended (text ++ b ∷ []) Begun) (sym c.if-byte-eq10.true) (line_ends text c.args.watch c.in_default.not-Last un); ended = tt }

pub returns-in_default-2-5-clause-on : goal.returns-in_default-2-5-clause-on
returns-in_default-2-5-clause-on c text un = other_goes_on text (c.args.byte ∷ []) (c.if-byte-eq10.false, tt) (subst (IsUnended text) c.in_default-2.is-0 un)
