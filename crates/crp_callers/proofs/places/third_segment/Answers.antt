use Rattle.std.proofs.Common.{arith}
use Rattle.crp_callers.proofs.Placed.{are_two}
use Rattle.crp_callers.proofs.places.third_segment.Goals as goal

pub returns : goal.returns
returns c = c.segment_at.ensures.none 2 are_two (omega arith)
