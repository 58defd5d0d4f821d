use Rattle.crp_callers.proofs.tables.one_reason_to_stop.Goals as goal

pub returns : goal.returns
returns c = λ yard text fault other is also. c.one_outcome.ensures.first yard text fault other is also
