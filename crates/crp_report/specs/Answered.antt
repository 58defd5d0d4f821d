-- What a search said of a bay, and of all bays together.
use Rattle.std.specs.Prelude.{◌≡◌, Bool, true, false, List, length, map, All, Option, Some, None, option_map, if◌then◌else◌}
use Rattle.std.specs.List.{list_any, filter_map}
use Rattle.crp_plan.specs.Plans.{ProblemPath}
use Rattle.crp_yard.specs.declared.bay_plan.BayPlan.{BayPlan}
use Rattle.crp_order.specs.declared.bay_problem.BayProblem.{BayProblem}
use Rattle.crp_solve.specs.declared.answer.Answer.{Answer}
use Rattle.crp_solve.specs.declared.answer.Answer.TheVariants as answer
use Rattle.crp_solve.specs.declared.answer.Cause.{Cause}
use Rattle.crp_solve.specs.declared.answer.Cause.TheVariants as cause
use Rattle.crp_solve.specs.declared.answer.Solved.{Solved}
use Rattle.crp_solve.specs.Solved.{IsSolved}
use Rattle.crp_solve.specs.Chosen.{Chosen}
use Rattle.crp_said.specs.declared.said.SaidCause.{SaidCause}
use Rattle.crp_said.specs.declared.said.SaidCause.TheVariants as said_cause
use Rattle.crp_said.specs.declared.said.Said.{Said}
use Rattle.crp_said.specs.declared.said.Said.TheVariants as said
use Rattle.crp_report.specs.declared.status.Status.{Status}
use Rattle.crp_report.specs.declared.status.Status.TheVariants as status

-- the plan that the answer gives, if it gives one
abbrev pub plan_in : Answer → Option ProblemPath
plan_in (answer.Optimal plan cert) = Some plan
plan_in (answer.First plan cert) = Some plan
plan_in (answer.NoPlan cert) = None
plan_in (answer.Between lower cert plan why) = plan

-- what an answer says
abbrev pub cause_said : Cause → SaidCause
cause_said cause.Budget = said_cause.Budget
cause_said cause.Memory = said_cause.Memory
cause_said cause.Time = said_cause.Time

abbrev pub said_by : Answer → Said
said_by (answer.Optimal plan cert) = said.Optimal (length plan.path)
said_by (answer.First plan cert) = said.First (length plan.path)
said_by (answer.NoPlan cert) = said.NoPlan
said_by (answer.Between lower cert plan why) = said.Between lower (option_map (λ route. length route.path) plan) (cause_said why)

-- how a search ended that left the problem open
abbrev pub status_by : Cause → Status
status_by cause.Budget = status.Budget
status_by cause.Memory = status.Memory
status_by cause.Time = status.Budget

-- how the search ended
abbrev pub status_of : Answer → Status
status_of (answer.Optimal plan cert) = status.Decided
status_of (answer.First plan cert) = status.Decided
status_of (answer.NoPlan cert) = status.Decided
status_of (answer.Between lower cert plan why) = status_by why

-- the problem of a bay, and how it is solved
pub record Answered : Type 0 where
  pub stated : BayProblem
  pub solved : Solved

-- one true answer for each of the problems, in their order: each is what was chosen for a search, within the budget, and by the first best plan where
-- that was asked for and found
pub record AreTrueAnswers (chosen : Chosen) (problems : List BayProblem) (answered : List Answered) : Type 0 where
  pub one_for_each : map (λ bay. bay.stated) answered ≡ problems
  pub each_true : All (λ bay. IsSolved bay.stated.problem chosen bay.solved) answered

-- the search ended because memory ran out
abbrev pub is_memory : Status → Bool
is_memory status.Memory = true
is_memory status.Budget = false
is_memory status.Decided = false

-- the search ended with its budget or its time
abbrev pub is_budget : Status → Bool
is_budget status.Budget = true
is_budget status.Memory = false
is_budget status.Decided = false

-- the bay is decided
abbrev pub is_decided : Status → Bool
is_decided status.Decided = true
is_decided status.Budget = false
is_decided status.Memory = false

-- how the searches ended together: with lack of memory where one did, else with a budget or a limit of time where one did, else with all bays decided
abbrev pub status_of_all : List Answered → Status
status_of_all answered =
    if list_any (λ bay. is_memory (status_of bay.solved.answer)) answered then status.Memory
    else (if list_any (λ bay. is_budget (status_of bay.solved.answer)) answered then status.Budget else status.Decided)

-- how two lists of searches ended together, each of which ended so
abbrev pub both : Status → Status → Status
both status.Memory other = status.Memory
both status.Decided other = other
both status.Budget status.Memory = status.Memory
both status.Budget status.Budget = status.Budget
both status.Budget status.Decided = status.Budget

-- the plan of a bay with the containers of its ranks, if the answer gives one
abbrev pub bay_plan_in : Answered → Option BayPlan
bay_plan_in bay = option_map (λ plan. record { bay = bay.stated.bay; plan = plan; names = bay.stated.names }) (plan_in bay.solved.answer)

-- the plans of the bays that have one
abbrev pub bay_plans : List Answered → List BayPlan
bay_plans answered = filter_map bay_plan_in answered
