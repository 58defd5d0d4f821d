use Rattle.std.proofs.Common.{sym, arith, inr}
use Rattle.crp_movins.proofs.ReadingSteps.{orders-start, faults-start, faulty-refused}
use Rattle.crp_movins.proofs.reading.load_orders.Goals as goal

pub segments-init : goal.segments-init
segments-init c = (
  omega arith,
  omega arith,
  faults-start c.args.segments.now c.args.loading.now,
  c.start-standing.ensures c.args.segments.now c.args.loading.now,
  c.start-headed.ensures c.args.segments.now c.args.loading.now,
  rw c.new-orders.ensures (sym (orders-start c.args.segments.now c.args.loading.now)),
)

pub returns-in-Some-clause-refused : goal.returns-in-Some-clause-refused
returns-in-Some-clause-refused c =
    inr (faulty-refused c.args.segments.now c.args.loading.now c.segments.number c.in-Some.fault c.segments.invariant.2 (sym c.in-Some.ensures) (omega arith))
