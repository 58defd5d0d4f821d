-- What is kept of answered bays, and of one more.
use Rattle.std.proofs.Common.{◌≡◌, ◌∙◌, ◌+◌, ◌≤◌, Bool, true, false, cond, List, [], ◌∷◌, ◌++◌, Option, Some, None, refl, sym, ap, arith, length-append}
use Rattle.std.specs.Prelude.{◌||◌, option_to_list, if◌then◌else◌}
use Rattle.std.specs.List.{cons_option, list_any}
use Rattle.std.proofs.lemmas.List.Elements.{filter_map-append}
use Rattle.std.proofs.lemmas.List.Folds.{list_any-append}
use Rattle.std.proofs.lemmas.List.Sums.{fold-append, count_by-le-length}
use Rattle.crp_yard.specs.declared.bay_plan.BayPlan.{BayPlan}
use Rattle.crp_report.specs.declared.kept.BaysDone.{BaysDone}
use Rattle.crp_report.specs.declared.status.Status.{Status}
use Rattle.crp_report.specs.declared.status.Status.TheVariants as status
use Rattle.crp_report.specs.Answered.{Answered, is_memory, is_budget, is_decided, status_of, status_of_all, both, bay_plan_in, bay_plans}
use Rattle.crp_report.specs.Report.{decided}
use Rattle.crp_report.specs.Writing.{AreKept}

-- the plans of answered bays, and of one more
plans_more : (answered : List Answered) (a : Answered) → bay_plans (answered ++ a ∷ []) ≡ bay_plans answered ++ option_to_list (bay_plan_in a)
plans_more answered a = filter_map-append bay_plan_in answered (a ∷ []) ∙ ap (λ l. bay_plans answered ++ l) (alone (bay_plan_in a))
  where
    alone : (o : Option BayPlan) → cons_option o [] ≡ option_to_list o
    alone None = refl
    alone (Some plan) = refl

decided_more : (answered : List Answered) (a : Answered) → decided (answered ++ a ∷ []) ≡ decided answered + cond (is_decided (status_of a.solved.answer)) 1 0
decided_more answered a = fold-append (λ n (bay : Answered). n + cond (is_decided (status_of bay.solved.answer)) 1 0) 0 answered (a ∷ [])

-- how the searches ended, from whether memory or a budget did in some of them
abbrev ended : Bool → Bool → Status
ended memory budget = if memory then status.Memory else (if budget then status.Budget else status.Decided)

ended_more : (memory budget : Bool) (s : Status) → ended (memory || (is_memory s || false)) (budget || (is_budget s || false)) ≡ both (ended memory budget) s
ended_more true budget s = refl
ended_more false true status.Memory = refl
ended_more false true status.Budget = refl
ended_more false true status.Decided = refl
ended_more false false status.Memory = refl
ended_more false false status.Budget = refl
ended_more false false status.Decided = refl

status_more : (answered : List Answered) (a : Answered) → status_of_all (answered ++ a ∷ []) ≡ both (status_of_all answered) (status_of a.solved.answer)
status_more answered a =
    let memory : Answered → Bool = λ bay. is_memory (status_of bay.solved.answer) in
    let budget : Answered → Bool = λ bay. is_budget (status_of bay.solved.answer) in
    ap (λ b. ended b (list_any budget (answered ++ a ∷ []))) (list_any-append memory answered (a ∷ []))
    ∙ ap (λ b. ended (list_any memory answered || list_any memory (a ∷ [])) b) (list_any-append budget answered (a ∷ []))
    ∙ ended_more (list_any memory answered) (list_any budget answered) (status_of a.solved.answer)

pub kept_more : (answered : List Answered) (a : Answered) (kept next : BaysDone) → AreKept answered kept → next.bays ≡ kept.bays + 1
    → next.plans.items ≡ kept.plans.items ++ option_to_list (bay_plan_in a) → next.decided ≡ kept.decided + cond (is_decided (status_of a.solved.answer)) 1 0
    → next.status ≡ both kept.status (status_of a.solved.answer) → AreKept (answered ++ a ∷ []) next
kept_more answered a kept next are bays plans count status = record {
  bays = omega (arith, bays, are.bays, length-append answered (a ∷ []));
  plans = plans ∙ ap (λ (l : List BayPlan). l ++ option_to_list (bay_plan_in a)) are.plans ∙ sym (plans_more answered a);
  decided = count ∙ ap (λ n. n + cond (is_decided (status_of a.solved.answer)) 1 0) are.decided ∙ sym (decided_more answered a);
  status = status ∙ ap (λ (s : Status). both s (status_of a.solved.answer)) are.status ∙ sym (status_more answered a);
}

-- no more are decided than there are
pub few_decided : (answered : List Answered) (kept : BaysDone) → AreKept answered kept → kept.decided ≤ kept.bays
few_decided answered kept are = omega (arith, are.bays, are.decided, count_by-le-length (λ (bay : Answered). is_decided (status_of bay.solved.answer)) answered)
