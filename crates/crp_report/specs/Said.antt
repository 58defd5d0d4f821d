-- What the report of a run says.
use Rattle.std.specs.Prelude.{◌≡◌, ℕ, List}
use Rattle.std.specs.List.{AllZip}
use Rattle.crp_said.specs.declared.said.Said.TheVariants.{First}
use Rattle.crp_said.specs.Said.{BaySaid, report_text}
use Rattle.crp_report.specs.Answered.{Answered, plan_in, said_by}
use Rattle.crp_report.specs.Report.{MayBePlanLines}
use Rattle.crp_report.specs.Runs.{Made, numbers_of}

-- the bay is reported with its first best plan
abbrev pub IsReportedFirst : Answered → Type 0
IsReportedFirst bay = (count : ℕ) × (said_by bay.solved.answer ≡ First count)

-- this is what is said of a bay that is answered so
pub record IsSaidOf (bay : Answered) (b : BaySaid) : Type 0 where
  pub bay_is : b.bay ≡ bay.stated.bay
  pub said_is : b.said ≡ said_by bay.solved.answer
  pub lines_are : MayBePlanLines bay.stated.names (plan_in bay.solved.answer) b.lines

-- this is what a run says of its bays, in order: it is said of each as it was answered, and the report is the text of it
pub record SaysOfBays (m : Made) (bays : List BaySaid) : Type 0 where
  pub of_each : AllZip IsSaidOf m.answered bays
  pub report : m.report ≡ report_text (numbers_of m.yard m.orders m.sequence) bays

-- two runs say the same: the same three numbers; the same bays in the same order; and of each of them the same of its fewest relocations, and the
-- same lines of moves
pub record SayTheSame (m other : Made) : Type 0 where
  pub numbers : numbers_of m.yard m.orders m.sequence ≡ numbers_of other.yard other.orders other.sequence
  pub bays : List BaySaid
  pub said : SaysOfBays m bays
  pub said_again : SaysOfBays other bays
