-- The rows so far are added.
use Rattle.std.proofs.Common.{◌≡◌, ◌++◌, take}
use Rattle.crp_page.specs.Numbered.{numbered_text}
use Rattle.crp_page.specs.Words.{row_words}
use Rattle.crp_page.proofs.words.push_rows.Given as goal

abbrev pub invariant-loop-i : goal.invariant-loop-i
invariant-loop-i l = l.text.items ≡ l.initial.text.items ++ numbered_text row_words 1 (take l.i l.rows)
