use Rattle.std.proofs.Common.{◌∙◌, sym}
use Rattle.crp_callers.proofs.ways.one_is_moved.Goals as goal

pub returns : goal.returns
returns c = λ s t u from to source target sound one other.
    sym (c.blocker_moves.ensures s from to t sound one) ∙ c.blocker_moves.ensures s source target u sound other
