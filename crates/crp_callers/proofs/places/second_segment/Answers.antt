use Rattle.std.proofs.Common.{codes}
use Rattle.crp_callers.proofs.Placed.{is_second}
use Rattle.crp_callers.proofs.places.second_segment.Goals as goal

pub returns-clause-begins : goal.returns-clause-begins
returns-clause-begins c = c.segment_at.ensures.place 11 is_second.at

pub returns-clause-ends : goal.returns-clause-ends
returns-clause-ends c = c.segment_end.ensures.end 2 (codes "UNT'") is_second
