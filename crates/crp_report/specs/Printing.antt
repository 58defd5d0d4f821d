-- What `print_moves` writes, and what its faults state.
use Rattle.std.specs.Prelude.{◌≡◌, ℕ, List}
use Rattle.crp_plan.specs.Plans.{ProblemPath}
use Rattle.crp_report.specs.declared.fault.Fault.{Fault}
use Rattle.crp_report.specs.declared.fault.Fault.TheVariants as fault
use Rattle.crp_report.specs.declared.fault.Output.TheVariants as output
use Rattle.crp_plan.specs.Devices.{HasFailed}
use Rattle.crp_report.specs.Report.{ArePlanLines}
use Rattle.crp_report.specs.Runs.{SinkSeen, Gets, GetsPart, GetsNothing}

-- the move lines of the plan, with these names by rank, were written, and nothing else
abbrev pub WritesMoves : List (List ℕ) → ProblemPath → SinkSeen → Type 0
WritesMoves names plan s = (text : List ℕ) × ArePlanLines names plan text × Gets s text

-- what a fault states: a write to the report's sink has failed in this call, and a front of the move lines was written that is not all of them;
-- or memory runs out, and no call of the sink has failed
abbrev pub PrintingFailsWith : List (List ℕ) → ProblemPath → SinkSeen → Fault → Type 0
PrintingFailsWith names plan s (fault.Write output.Report) = ((text : List ℕ) × ArePlanLines names plan text × GetsPart s text) × HasFailed s.before s.after
PrintingFailsWith names plan s fault.Memory = GetsNothing s × (s.after ≡ s.before)
PrintingFailsWith names plan s f = ⊥
