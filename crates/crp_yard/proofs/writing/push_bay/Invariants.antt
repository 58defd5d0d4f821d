-- The list, and the records of the stacks so far.
use Rattle.std.proofs.Common.{◌≡◌, ◌++◌, take}
use Rattle.crp_yard.specs.Text.{records_of_rows, text_of_records}
use Rattle.crp_yard.proofs.writing.push_bay.Given as goal

abbrev pub invariant-loop-i : goal.invariant-loop-i
invariant-loop-i l = l.longer ≡ l.initial.longer ++ text_of_records (records_of_rows l.bay 1 (take l.i l.stacks))
