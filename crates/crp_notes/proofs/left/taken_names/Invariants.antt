-- Those of the bays so far.
use Rattle.std.proofs.Common.{map, take}
use Rattle.crp_follow.specs.Views.{bay_followed}
use Rattle.crp_notes.specs.Left.{moves_of_all, is_taken}
use Rattle.crp_notes.specs.LeftNames.{HasThose}
use Rattle.crp_notes.proofs.left.taken_names.Given as goal

abbrev pub invariant-loop-bay : goal.invariant-loop-bay
invariant-loop-bay l = HasThose (is_taken (moves_of_all (map bay_followed (take l.bay-index l.followed.bays.items)))) l.names.keys
