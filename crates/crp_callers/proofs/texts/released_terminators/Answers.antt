use Rattle.std.proofs.Common.{[], ◌∷◌}
use Rattle.crp_callers.specs.Released.{with_terminator, released}
use Rattle.crp_callers.proofs.Released.{is_spelled}
use Rattle.crp_callers.proofs.texts.released_terminators.Goals as goal

pub returns-clause-spelled : goal.returns-clause-spelled
returns-clause-spelled c = is_spelled

pub returns-clause-one : goal.returns-clause-one
returns-clause-one c = λ segments spelled. c.one_list_for_a_text.ensures released segments (with_terminator ∷ []) spelled is_spelled

pub returns-clause-faultless : goal.returns-clause-faultless
returns-clause-faultless c = λ fault faulty. c.spelled_has_no_fault.ensures released (with_terminator ∷ []) fault is_spelled faulty
