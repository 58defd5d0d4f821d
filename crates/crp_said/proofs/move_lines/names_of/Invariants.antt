-- The names of the containers so far.
use Rattle.std.proofs.Common.{◌≡◌, map, take}
use Rattle.crp_said.proofs.move_lines.names_of.Given as goal

abbrev pub invariant-loop-container : goal.invariant-loop-container
invariant-loop-container l = map (λ name. name.items) l.names.items ≡ take l.container-index l.containers
