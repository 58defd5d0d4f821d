use Rattle.std.proofs.Common.{◌≡◌, ◌+◌, ◌-◌, ◌≤◌, None, length}
use Rattle.crp_movins.specs.LoadOrders.{orders_before}
use Rattle.crp_movins.specs.Faults.{first_fault_before}
use Rattle.crp_movins.specs.Standings.{standing_before, headed_before}
use Rattle.crp_movins.proofs.reading.load_orders.Given as goal

abbrev pub invariant-segments : goal.invariant-segments
invariant-segments l = (1 ≤ l.number) × (l.number ≤ length l.segments + 1) × (first_fault_before l.segments l.loading l.number ≡ None) × (l.standing ≡ standing_before l.segments l.loading l.number) × (l.headed ≡ headed_before l.segments l.loading l.number) × (l.orders ≡ orders_before l.segments l.loading l.number)

abbrev pub decreases-segments : goal.decreases-segments
decreases-segments l = length l.segments + 1 - l.number
