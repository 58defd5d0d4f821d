-- The header, and the records of the bays so far.
use Rattle.std.proofs.Common.{◌≡◌, take}
use Rattle.crp_yard.specs.Text.{records_of_yard, text_of_records}
use Rattle.crp_yard.proofs.writing.yard_text.Given as goal

abbrev pub invariant-loop-i : goal.invariant-loop-i
invariant-loop-i l = l.list ≡ text_of_records (records_of_yard (take l.i l.yard.bays))
