use Rattle.std.proofs.Common.{◌≡◌, map}
use Rattle.crp_plan.specs.Walks.{NoneToTake}
use Rattle.crp_audit.proofs.Follows.{NoShiftLine}
use Rattle.crp_audit.proofs.replaying.replay_line.Given as goal

abbrev pub invariant-loop-i : goal.invariant-loop-i
invariant-loop-i l = record {
  same : l.walk ≡ l.fn.walk;
  no_take : NoneToTake l.fn.walk;
  none : NoShiftLine (map (λ name. name.items) l.names) l.fn.walk l.bytes l.i;
}
