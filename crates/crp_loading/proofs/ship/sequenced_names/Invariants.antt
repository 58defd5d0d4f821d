-- The names so far.
use Rattle.std.proofs.Common.{◌≡◌, map, take}
use Rattle.crp_loading.proofs.ship.sequenced_names.Given as goal

abbrev pub invariant-loop-container : goal.invariant-loop-container
invariant-loop-container l = map (λ name. name.now) l.names.items ≡ take l.container-index l.sequence
