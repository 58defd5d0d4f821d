-- What the program writes, as an auditor sees it.
use Rattle.std.specs.Prelude.{ℕ, List}
use Rattle.crp_plan.specs.BayNames.{YardBay, IsYardBay}
use Rattle.crp_plan.specs.Bay.{Problem, cap}
use Rattle.crp_order.specs.declared.bay_problem.BayProblem.{BayProblem}
use Rattle.crp_solve.specs.declared.answer.Answer.{Answer}
use Rattle.crp_report.specs.Answered.{said_by}
use Rattle.crp_report.specs.Runs.{Made}
use Rattle.crp_audit.specs.Headline.{Handed, handed, verdict_said, IsShownOf}

-- what a run makes of its input, handed in
abbrev pub handed_of : Made → Handed
handed_of m = handed m.yard m.orders m.sequence m.report m.certificates

-- the text is an accepted certificate of the bay of this name and of this problem, with the verdict that says the same as the answer
abbrev pub IsAcceptedAs : List ℕ → YardBay → Problem → Answer → Type 0
IsAcceptedAs text bay p found = IsShownOf bay p text (verdict_said (cap p) (said_by found))

-- a text can state the bay and its problem: the bay has a name
abbrev pub CanBeWritten : BayProblem → Type 0
CanBeWritten stated = IsYardBay stated.bay
