-- Plans that true answers give are plans for the bays of the yard.
use Rattle.std.proofs.Common.{◌≡◌, ℕ, false, List, [], ◌∷◌, map, Option, Some, None, All, IfSome, sym, subst}
use Rattle.std.specs.List.{IsDistinct, AllByRecursion, cons_option}
use Rattle.std.specs.Option.{option_map}
use Rattle.crp_sizes.proofs.Lists.{all_of, each_of}
use Rattle.crp_plan.specs.Bay.{Problem, IsProblem}
use Rattle.crp_plan.specs.BayNames.{YardBay, same_bay}
use Rattle.crp_plan.specs.Plans.{ProblemPath}
use Rattle.crp_yard.specs.Inventory.{Inventory}
use Rattle.crp_plan.specs.Faults.{IsPlanPath}
use Rattle.crp_yard.specs.After.{IsPlanForBay, IsCompletePlan}
use Rattle.crp_yard.specs.declared.bay_plan.BayPlan.{BayPlan}
use Rattle.crp_order.specs.BayProblems.{IsNamed}
use Rattle.crp_order.specs.declared.bay_problem.BayProblem.{BayProblem}
use Rattle.crp_solve.specs.declared.answer.Answer.{Answer}
use Rattle.crp_solve.specs.declared.answer.Answer.TheVariants as answer
use Rattle.crp_solve.specs.Answers.{IsPlanOf, IsTrueAnswer}
use Rattle.crp_solve.specs.Solved.{IsSolved}
use Rattle.crp_solve.specs.Chosen.{Chosen}
use Rattle.crp_report.specs.Answered.{Answered, AreTrueAnswers, plan_in, bay_plans}

-- the plan of a true answer is one of its problem
pub plan_is : (p : Problem) (budget : ℕ) (found : Answer) (expanded : ℕ) → IsTrueAnswer p budget found expanded → IfSome (plan_in found) (IsPlanOf p)
plan_is p budget (answer.Optimal plan cert) expanded is = is.says.plan_is
plan_is p budget (answer.First plan cert) expanded is = is.says.plan_is
plan_is p budget (answer.NoPlan cert) expanded is = tt
plan_is p budget (answer.Between lower cert None why) expanded is = tt
plan_is p budget (answer.Between lower cert (Some plan) why) expanded is = is.says.plan_is

-- so it states the bay
plan_of_bay : (yard : Inventory) (stated : BayProblem) (plan : ProblemPath) → IsPlanOf stated.problem plan → IsNamed yard stated
    → IsPlanForBay yard (record { bay = stated.bay; plan = plan; names = stated.names })
plan_of_bay yard stated plan is named = record { heights = rw is.of_problem named.heights; stands = rw is.of_problem named.stands }

-- with the plan of one more bay, if it has one
plan_more : (yard : Inventory) (stated : BayProblem) (plan : Option ProblemPath) (rest : List BayPlan) → IfSome plan (IsPlanOf stated.problem) → IsNamed yard stated
    → AllByRecursion (IsPlanForBay yard) rest
    → AllByRecursion (IsPlanForBay yard) (cons_option (option_map (λ route. record { bay = stated.bay; plan = route; names = stated.names }) plan) rest)
plan_more yard stated None rest is named all = all
plan_more yard stated (Some plan) rest is named all = (plan_of_bay yard stated plan is named, all)

plans_each : (yard : Inventory) (chosen : Chosen) (answered : List Answered) → AllByRecursion (λ bay. IsSolved bay.stated.problem chosen bay.solved) answered
    → AllByRecursion (IsNamed yard) (map (λ bay. bay.stated) answered) → AllByRecursion (IsPlanForBay yard) (bay_plans answered)
plans_each yard chosen [] true_answers named = tt
plans_each yard chosen (bay ∷ answered) true_answers named =
    let is = true_answers.0 in
    plan_more yard bay.stated (plan_in bay.solved.answer) (bay_plans answered) (plan_is bay.stated.problem chosen.budget bay.solved.answer bay.solved.expanded is.answer) named.0
    (plans_each yard chosen answered true_answers.1 named.1)

-- the plans of true answers to named problems are plans for the bays of the yard
pub plans_are : (yard : Inventory) (chosen : Chosen) (problems : List BayProblem) (answered : List Answered) → AreTrueAnswers chosen problems answered → All (IsNamed yard) problems
    → All (IsPlanForBay yard) (bay_plans answered)
plans_are yard chosen problems answered are named =
    let each = each_of (IsNamed yard) problems named in
    let on : AllByRecursion (IsNamed yard) (map (λ bay. bay.stated) answered) = subst (AllByRecursion (IsNamed yard)) (sym are.one_for_each) each in
    all_of (IsPlanForBay yard) (bay_plans answered) (plans_each yard chosen answered (each_of _ answered are.each_true) on)

-- and complete ones
complete_more : (stated : BayProblem) (plan : Option ProblemPath) (rest : List BayPlan) → IfSome plan (IsPlanOf stated.problem) → IsProblem stated.problem
    → AllByRecursion IsCompletePlan rest
    → AllByRecursion IsCompletePlan (cons_option (option_map (λ route. record { bay = stated.bay; plan = route; names = stated.names }) plan) rest)
complete_more stated None rest is problem all = all
complete_more stated (Some plan) rest is problem all =
    ((subst IsProblem (sym is.of_problem) problem, subst (λ (q : Problem). IsPlanPath q plan.path) (sym is.of_problem) is.complete), all)

complete_each : (chosen : Chosen) (answered : List Answered) → AllByRecursion (λ bay. IsSolved bay.stated.problem chosen bay.solved) answered → AllByRecursion IsCompletePlan (bay_plans answered)
complete_each chosen [] true_answers = tt
complete_each chosen (bay ∷ answered) true_answers =
    let is = true_answers.0 in
    let t = is.answer in
    let ok = t.accepted in
    complete_more bay.stated (plan_in bay.solved.answer) (bay_plans answered) (plan_is bay.stated.problem chosen.budget bay.solved.answer bay.solved.expanded is.answer) ok.is_problem
    (complete_each chosen answered true_answers.1)

pub plans_complete : (chosen : Chosen) (problems : List BayProblem) (answered : List Answered) → AreTrueAnswers chosen problems answered → All IsCompletePlan (bay_plans answered)
plans_complete chosen problems answered are = all_of IsCompletePlan (bay_plans answered) (complete_each chosen answered (each_of _ answered are.each_true))

-- a bay that is none of the answered ones is none of those with plans
apart_more : (bay own : YardBay) (plan : Option ProblemPath) (names : List (List ℕ)) (rest : List BayPlan) → same_bay bay own ≡ false
    → AllByRecursion (λ other. same_bay bay other ≡ false) (map (λ p. p.bay) rest)
    → AllByRecursion (λ other. same_bay bay other ≡ false) (map (λ p. p.bay) (cons_option (option_map (λ route. record { bay = own; plan = route; names = names }) plan) rest))
apart_more bay own None names rest other all = all
apart_more bay own (Some plan) names rest other all = (other, all)

apart : (bay : YardBay) (answered : List Answered) → AllByRecursion (λ other. same_bay bay other ≡ false) (map (λ stated. stated.bay) (map (λ a. a.stated) answered))
    → AllByRecursion (λ other. same_bay bay other ≡ false) (map (λ p. p.bay) (bay_plans answered))
apart bay [] others = tt
apart bay (a ∷ answered) others = apart_more bay a.stated.bay (plan_in a.solved.answer) a.stated.names (bay_plans answered) others.0 (apart bay answered others.1)

once_more : (own : YardBay) (plan : Option ProblemPath) (names : List (List ℕ)) (rest : List BayPlan) → AllByRecursion (λ other. same_bay own other ≡ false) (map (λ p. p.bay) rest)
    → IsDistinct same_bay (map (λ p. p.bay) rest)
    → IsDistinct same_bay (map (λ p. p.bay) (cons_option (option_map (λ route. record { bay = own; plan = route; names = names }) plan) rest))
unfolding IsDistinct
once_more own None names rest others once = once
once_more own (Some plan) names rest others once = (others, once)

once_each : (answered : List Answered) → IsDistinct same_bay (map (λ stated. stated.bay) (map (λ a. a.stated) answered)) → IsDistinct same_bay (map (λ p. p.bay) (bay_plans answered))
unfolding IsDistinct
once_each [] once = tt
once_each (a ∷ answered) once =
    once_more a.stated.bay (plan_in a.solved.answer) a.stated.names (bay_plans answered) (apart a.stated.bay answered once.0) (once_each answered once.1)

-- there is one plan for a bay at most
pub plans_once : (chosen : Chosen) (problems : List BayProblem) (answered : List Answered) → AreTrueAnswers chosen problems answered
    → IsDistinct same_bay (map (λ stated. stated.bay) problems) → IsDistinct same_bay (map (λ p. p.bay) (bay_plans answered))
plans_once chosen problems answered are once =
    once_each answered (subst (λ (l : List BayProblem). IsDistinct same_bay (map (λ (stated : BayProblem). stated.bay) l)) (sym are.one_for_each) once)
