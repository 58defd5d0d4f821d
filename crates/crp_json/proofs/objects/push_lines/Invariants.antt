-- The lines of the entries so far are added.
use Rattle.std.proofs.Common.{◌≡◌, ◌++◌, take}
use Rattle.crp_json.specs.Lines.{json_of}
use Rattle.crp_json.proofs.objects.push_lines.Given as goal

abbrev pub invariant-loop-entry : goal.invariant-loop-entry
invariant-loop-entry l = l.text.items ≡ l.fn.text.items ++ json_of (take l.entry-index l.entries)
