-- The rows so far are added.
use Rattle.std.proofs.Common.{◌≡◌, ◌++◌, map, take}
use Rattle.crp_follow.specs.Views.{bay_followed}
use Rattle.crp_page.specs.Numbered.{numbered_text}
use Rattle.crp_page.specs.Summary.{table_row}
use Rattle.crp_page.proofs.summary.push_table_rows.Given as goal

abbrev pub invariant-loop-i : goal.invariant-loop-i
invariant-loop-i l = l.text.items ≡ l.initial.text.items ++ numbered_text table_row 1 (map bay_followed (take l.i l.bays))
