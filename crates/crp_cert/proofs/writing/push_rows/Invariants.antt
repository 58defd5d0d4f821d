-- The lines of the rows so far were added.
use Rattle.std.proofs.Common.{◌≡◌, ◌++◌, take}
use Rattle.std.specs.List.{flat_map}
use Rattle.crp_cert.specs.Text.{row_line}
use Rattle.crp_cert.proofs.writing.push_rows.Given as goal

abbrev pub invariant-loop-i : goal.invariant-loop-i
invariant-loop-i l = l.text.items ≡ l.initial.text.items ++ flat_map row_line (take l.i l.problem.stacks)
