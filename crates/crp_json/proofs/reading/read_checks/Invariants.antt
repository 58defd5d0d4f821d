-- The lines so far state the entries so far.
use Rattle.std.proofs.Common.{◌≡◌, ◌++◌, length}
use Rattle.std.specs.List.{AllByRecursion}
use Rattle.crp_json.specs.declared.entry.Printed.TheVariants as printed
use Rattle.crp_json.specs.Entries.{IsEntryOf}
use Rattle.crp_json.specs.Lines.{report_of}
use Rattle.crp_json.proofs.reading.read_checks.Given as goal

abbrev pub invariant-loop-line : goal.invariant-loop-line
invariant-loop-line l = record {
  stated : AllByRecursion (IsEntryOf printed.Checks) l.entries.items;
  text : l.fn.text ≡ report_of l.entries.items ++ l.rest;
}

abbrev pub decreases-loop-line : goal.decreases-loop-line
decreases-loop-line l = length l.rest
