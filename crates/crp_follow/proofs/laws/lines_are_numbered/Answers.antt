use Rattle.crp_follow.proofs.LinesStand.{line_stands}
use Rattle.crp_follow.proofs.laws.lines_are_numbered.Goals as goal

pub returns : goal.returns
returns c = λ text before later line e. line_stands text before later line e
