-- The records of the containers so far are written.
use Rattle.std.proofs.Common.{take}
use Rattle.crp_yard.specs.Text.{records_of_stack, text_of_records}
use Rattle.crp_yard.specs.Written.{WritesRecords}
use Rattle.crp_yard.proofs.writing.push_stack.Given as goal

abbrev pub invariant-loop-i : goal.invariant-loop-i
invariant-loop-i l = WritesRecords l.initial.writer l.writer (text_of_records (records_of_stack l.bay l.row 1 (take l.i l.stack)))
