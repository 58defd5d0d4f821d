use Rattle.std.proofs.Common.{◌∙◌, ap, arith, take}
use Rattle.crp_callers.proofs.audits.first_bay_alone.Goals as goal

pub returns-clause-alone : goal.returns-clause-alone
returns-clause-alone c = λ yard sequence first second is two. c.first_bays_are_stated.ensures.problems 1 yard sequence is (omega arith) ∙ ap (take 1) two

pub returns-clause-numbers : goal.returns-clause-numbers
returns-clause-numbers c = λ yard orders sequence report certificates. c.first_bays_are_stated.ensures.numbers 1 yard orders sequence report certificates
