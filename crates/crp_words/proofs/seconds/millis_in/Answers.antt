use Rattle.std.proofs.Common.{arith}
use Rattle.crp_words.proofs.Thousandths.{out_of_range}
use Rattle.crp_words.proofs.seconds.millis_in.Goals as goal

pub returns-in_default-clause-none : goal.returns-in_default-clause-none
returns-in_default-clause-none c n is = c.in_default.ensures.none n is.0

pub returns-then-millis-lt1-clause-none : goal.returns-then-millis-lt1-clause-none
returns-then-millis-lt1-clause-none c = out_of_range c.args.text.now c.in-Some.millis c.in-Some.ensures.some (λ range. let beyond = c.then-millis-lt1.either in omega (arith, range, beyond))
