use Rattle.std.proofs.Common.{◌≡◌, map, take}
use Rattle.crp_audit.proofs.part.names_of.Given as goal

abbrev pub invariant-loop-made : goal.invariant-loop-made
invariant-loop-made l = l.names.items ≡ map (λ made. made.bay) (take l.made-index l.stated)
