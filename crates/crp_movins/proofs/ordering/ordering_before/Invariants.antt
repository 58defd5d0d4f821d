use Rattle.std.proofs.Common.{◌≡◌, ◌-◌, ◌≤◌}
use Rattle.crp_movins.specs.Faults.{ordering_before}
use Rattle.crp_movins.specs.Standings.{standing_before}
use Rattle.crp_movins.proofs.ordering.ordering_before.Given as goal

abbrev pub invariant-segments : goal.invariant-segments
invariant-segments l = (l.number ≤ l.at.number) × (l.standing ≡ standing_before l.at.segments.now l.at.loading.now l.number) × (l.found ≡ ordering_before l.at.segments.now l.at.loading.now l.container l.number)

abbrev pub decreases-segments : goal.decreases-segments
decreases-segments l = l.at.number - l.number
