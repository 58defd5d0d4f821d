-- No LF so far.
use Rattle.std.proofs.Common.{take}
use Rattle.crp_said.proofs.Bytes.{IsPlain}
use Rattle.crp_said.proofs.cutting.cut_line.Given as goal

abbrev pub invariant-loop-i : goal.invariant-loop-i
invariant-loop-i l = IsPlain (take l.i l.bytes)
