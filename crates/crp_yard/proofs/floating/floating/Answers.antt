use Rattle.std.proofs.Common.{sym, arith}
use Rattle.crp_yard.proofs.FloatingSteps.{floating-faulty}
use Rattle.crp_yard.proofs.floating.floating.Goals as goal

pub returns-then-is_floating : goal.returns-then-is_floating
returns-then-is_floating c =
    sym (floating-faulty c.args.listing.now c.loop-i.i (c.place.result.now, c.place.ensures.0) c.loop-i.invariant (omega arith) c.place.ensures.1 (sym c.if-is_floating.ensures))
