use Rattle.crp_picture.proofs.Boxed.{drawn_once, frame_once}
use Rattle.crp_picture.proofs.laws.each_is_drawn_once.Goals as goal

pub returns-clause-position : goal.returns-clause-position
returns-clause-position c = drawn_once

pub returns-clause-frame : goal.returns-clause-frame
returns-clause-frame c = frame_once
