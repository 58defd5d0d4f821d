use Rattle.crp_callers.proofs.audits.headlines_begin_right.Goals as goal

pub returns-clause-line : goal.returns-clause-line
returns-clause-line c = λ h is before named few small first. c.headlines_are_read.ensures.lines h is before 1 named few small first

pub returns-clause-numbers : goal.returns-clause-numbers
returns-clause-numbers c = λ h is before named few small first. c.headlines_are_read.ensures.numbers h is before named few small first
