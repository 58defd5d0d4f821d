use Rattle.std.proofs.Common.{◌≤◌}
use Rattle.crp_notes.proofs.message.messages.Given as goal

abbrev pub invariant-loop-i : goal.invariant-loop-i
invariant-loop-i l = l.messages ≤ l.i
