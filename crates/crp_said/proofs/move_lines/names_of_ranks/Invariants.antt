-- So many ranks have their names.
use Rattle.std.proofs.Common.{◌≡◌, map}
use Rattle.crp_said.specs.MoveLines.{rank_names}
use Rattle.crp_said.proofs.move_lines.names_of_ranks.Given as goal

abbrev pub invariant-loop-i : goal.invariant-loop-i
invariant-loop-i l = map (λ name. name.items) l.names.items ≡ rank_names l.i
