-- The lines so far.
use Rattle.std.proofs.Common.{◌≡◌, take}
use Rattle.crp_commands.specs.Check.{verdict_lines}
use Rattle.crp_commands.proofs.auditing.lines_of.Given as goal

abbrev pub invariant-loop-bay : goal.invariant-loop-bay
invariant-loop-bay l = l.text.items ≡ verdict_lines (take l.bay-index l.bay-items)
