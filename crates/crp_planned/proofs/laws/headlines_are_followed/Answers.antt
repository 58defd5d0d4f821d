use Rattle.crp_audit.specs.Headline.{numbers_in}
use Rattle.crp_planned.proofs.Headlines.{headline_followed}
use Rattle.crp_planned.proofs.laws.headlines_are_followed.Goals as goal

pub returns-clause-followed : goal.returns-clause-followed
returns-clause-followed c = headline_followed c.stays_within_heights.ensures c.written_is_stated.ensures c.headlines_are_read.ensures.spelled

pub returns-clause-faultless : goal.returns-clause-faultless
returns-clause-faultless c =
    λ sizes loading names list message mode h fault is listed orders sequence.
    let (bays, followed, ends) =
    headline_followed c.stays_within_heights.ensures c.written_is_stated.ensures c.headlines_are_read.ensures.spelled sizes loading names list message mode h is listed orders sequence in
    c.one_outcome.ensures.apart h.yard h.report (numbers_in h) bays fault followed
