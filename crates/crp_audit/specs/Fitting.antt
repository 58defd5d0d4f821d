-- Whether the moves of a report fit a yard and a sequence, whatever its three numbers, its last line and its certificates are.
use Rattle.std.specs.Prelude.{◌≡◌, Bool, true, false, List, [], ◌∷◌, filter}
use Rattle.crp_yard.specs.Inventory.{StackedBay}
use Rattle.crp_order.specs.BayProblems.{is_called}
use Rattle.crp_said.specs.Said.{BaySaid}
use Rattle.crp_said.specs.Spelled.{ReportSaid, SpellsReport}
use Rattle.crp_audit.specs.Headline.{Handed}
use Rattle.crp_audit.specs.Faults.{PrintsSaid, reported_as}
use Rattle.crp_audit.specs.declared.looking.Looked.{Looked}
use Rattle.crp_audit.specs.declared.looking.Looked.TheVariants.{Nothing, Plan, Stopped, Other}

-- what is said is said of this bay, and its lines are those of a complete plan with the relocations that are said; where none is said there are none
abbrev pub FitsBay : Handed → StackedBay → BaySaid → Type 0
FitsBay h bay s = (s.bay ≡ bay.0) × PrintsSaid h (reported_as bay s [])

-- so it is of each of these bays, one after the other, and of no more is anything said
abbrev pub FitsEach : Handed → List StackedBay → List BaySaid → Type 0
FitsEach h [] [] = Unit {0}
FitsEach h [] (s ∷ more) = ⊥
FitsEach h (bay ∷ later) [] = ⊥
FitsEach h (bay ∷ later) (s ∷ more) = FitsBay h bay s × FitsEach h later more

-- the moves of what is handed in fit: the report is spelled as one, its bays are those from which a container of the sequence leaves, in the yard's order,
-- and the lines of each are those of a complete plan for its problem
pub record MovesFit (h : Handed) : Type 0 where
  pub report : ReportSaid
  pub spelled : SpellsReport h.report report
  pub each : FitsEach h (filter (is_called h.sequence) h.yard.bays) report.bays

-- ---- what only private clauses speak of

-- the lines are as they are said
abbrev pub is_as_said : Looked → Bool
is_as_said Nothing = true
is_as_said (Plan path) = true
is_as_said (Stopped read) = false
is_as_said Other = false
