use Rattle.crp_report.specs.Runs.{numbers_of}
use Rattle.crp_planned.proofs.Runs.{run_followed}
use Rattle.crp_planned.proofs.laws.runs_are_followed.Goals as goal

pub returns-clause-followed : goal.returns-clause-followed
returns-clause-followed c = run_followed c.stays_within_heights.ensures c.written_is_stated.ensures

pub returns-clause-faultless : goal.returns-clause-faultless
returns-clause-faultless c =
    λ chosen seen made fault is.
    let (after, leads, text) = run_followed c.stays_within_heights.ensures c.written_is_stated.ensures chosen seen made is in
    c.one_outcome.ensures.apart made.yard made.report (numbers_of made.yard made.orders made.sequence) leads.bays fault leads.followed
