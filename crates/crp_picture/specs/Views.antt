-- What the types of the program stand for.
use Rattle.crp_picture.specs.declared.cell.Cell.{Cell as CellOfCode}
use Rattle.crp_picture.specs.declared.frame.Frame.{Frame as FrameOfCode}
use Rattle.crp_picture.specs.Cells.{Cell}
use Rattle.crp_picture.specs.Frames.{Frame}

abbrev pub cell_as : CellOfCode → Cell
cell_as c = record { row = c.row; tier = c.tier; name = c.name.now; step = c.step; blocks = c.blocks; kind = c.kind }

abbrev pub frame_as : FrameOfCode → Frame
frame_as f = record { step = f.step; moves = f.moves.now; later = f.later.now; before = f.before.items }
