use Rattle.std.proofs.Common.{[], ◌∷◌}
use Rattle.crp_callers.specs.Released.{with_terminator}
use Rattle.crp_callers.proofs.Released.{is_spelled}
use Rattle.crp_callers.proofs.texts.read_released_terminator.Goals as goal

pub returns : goal.returns
returns c = c.read_segments.ensures.read (with_terminator ∷ []) is_spelled
