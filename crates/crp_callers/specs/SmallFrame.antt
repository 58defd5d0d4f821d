-- Frames of the small bay.
use Rattle.std.specs.Prelude.{List, [], ◌∷◌}
use Rattle.crp_follow.specs.declared.stated.StatedMove.{StatedMove}
use Rattle.crp_picture.specs.Frames.{Frame}
use Rattle.crp_callers.specs.SmallReport.{relocation, small_rows}

-- MSCU3 is put onto MSCU2, and then these moves are made
abbrev pub frame_with : List StatedMove → Frame
frame_with moves = record { step = 1; moves = record { line = 3; said = relocation } ∷ moves; later = []; before = small_rows }
