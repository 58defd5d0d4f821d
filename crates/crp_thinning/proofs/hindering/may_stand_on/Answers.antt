use Rattle.std.proofs.Common.{nat_lt, sym, ap, ◌∙◌, arith}
use Rattle.std.proofs.lemmas.Bool.{lt-ltb}
use Rattle.crp_bounds.proofs.Leasts.{lower_is_least}
use Rattle.crp_thinning.proofs.hindering.may_stand_on.Goals as goal

pub returns-then-other-rank : goal.returns-then-other-rank
returns-then-other-rank c ordered under is =
    rw (lt-ltb c.args.other c.args.rank c.if-other-rank.true) (ap (λ n. nat_lt n c.args.other) is ∙ sym (lower_is_least ordered c.args.other under (omega arith)))
