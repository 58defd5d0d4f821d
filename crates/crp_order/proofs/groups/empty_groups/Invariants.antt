-- So many empty groups so far.
use Rattle.std.proofs.Common.{◌≡◌, [], map, replicate}
use Rattle.crp_order.specs.Groups.{pointed}
use Rattle.crp_order.proofs.groups.empty_groups.Given as goal

abbrev pub invariant-loop : goal.invariant-loop
invariant-loop l = map (λ group. pointed group.items) l.groups.items ≡ replicate l.counter []
