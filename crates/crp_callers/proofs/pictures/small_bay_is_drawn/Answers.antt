use Rattle.crp_callers.specs.SmallReport.{place, small_rows}
use Rattle.crp_callers.proofs.pictures.small_bay_is_drawn.Goals as goal

pub returns-clause-third : goal.returns-clause-third
returns-clause-third c = λ moves. c.each_is_drawn_once.ensures.position moves small_rows (place 1 2)

pub returns-clause-above : goal.returns-clause-above
returns-clause-above c = λ moves. c.each_is_drawn_once.ensures.position moves small_rows (place 1 3)

pub returns-clause-beside : goal.returns-clause-beside
returns-clause-beside c = λ moves. c.each_is_drawn_once.ensures.position moves small_rows (place 2 2)
