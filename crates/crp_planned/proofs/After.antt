-- What stands in a bay of the yard after plans.
use Rattle.std.proofs.Common.{◌≡◌, ◌∙◌, ℕ, Bool, true, false, cond, List, [], ◌∷◌, map, Option, Some, None, MatchOption, refl, sym, ap, subst}
use Rattle.std.specs.Prelude.{option_map}
use Rattle.std.specs.List.{AllByRecursion, IsDistinct, cons_option}
use Rattle.std.specs.Map.{lookup}
use Rattle.crp_plan.specs.BayNames.{YardBay, same_bay}
use Rattle.crp_plan.specs.Plans.{ProblemPath}
use Rattle.crp_yard.specs.declared.bay_plan.BayPlan.{BayPlan}
use Rattle.crp_yard.specs.Inventory.{StackedBay}
use Rattle.crp_yard.specs.After.{plan_for, LeavesNamed, IsBayAfter, AreBaysAfter}
use Rattle.crp_sizes.proofs.Bays.{same_bay_laws, same_bay_is, same_bay_self}
use Rattle.crp_sizes.proofs.Lists.{unmapped}
use Rattle.crp_report.specs.Answered.{Answered, plan_in, bay_plan_in, bay_plans}

-- what is left of these rows of a bay
abbrev pub AreRowsAfter : List BayPlan → YardBay → List (List (List ℕ)) → List (List (List ℕ)) → Type 0
AreRowsAfter plans bay old new = MatchOption (plan_for plans bay) (new ≡ old) (λ plan. LeavesNamed plan new)

-- the rows of a bay of the yard, and of the same bay after the plans
pub record HasAfter (plans : List BayPlan) (news : List StackedBay) (bay : YardBay) (rows : List (List (List ℕ))) : Type 0 where
  pub left : List (List (List ℕ))
  pub there : lookup (same_bay bay) news ≡ Some left
  pub are : AreRowsAfter plans bay rows left

first_found : (test : YardBay → Bool) (bay : StackedBay) (bays : List StackedBay) (t : Bool) → test bay.0 ≡ t → lookup test (bay ∷ bays) ≡ cond t (Some bay.1) (lookup test bays)
first_found test bay bays t e = ap (λ b. cond b (Some bay.1) (lookup test bays)) e

pub has_after : (plans : List BayPlan) (olds news : List StackedBay) (bay : YardBay) (rows : List (List (List ℕ))) → AreBaysAfter plans olds news → lookup (same_bay bay) olds ≡ Some rows
    → HasAfter plans news bay rows
has_after plans [] [] bay rows is e = absurd (cc)
has_after plans [] (new ∷ news) bay rows is e = absurd is
has_after plans (old ∷ olds) [] bay rows is e = absurd is
has_after plans (old ∷ olds) (new ∷ news) bay rows is e =
    let own : IsBayAfter plans old new = is.0 in
    by (same_bay bay old.0) refl own (λ later. has_after plans olds news bay rows is.1 later)
  where
    by : (t : Bool) → same_bay bay old.0 ≡ t → IsBayAfter plans old new → (lookup (same_bay bay) olds ≡ Some rows → HasAfter plans news bay rows) → HasAfter plans (new ∷ news) bay rows
    by true t own later =
        let name : bay ≡ old.0 = same_bay_is bay old.0 t in
        let found : Some old.1 ≡ Some rows = sym (first_found (same_bay bay) old olds true t) ∙ e in
        let same : old.1 ≡ rows = cc found in
        record {
          left = new.1;
          there = first_found (same_bay bay) new news true (ap (same_bay bay) own.0 ∙ t);
          are = subst (λ b. AreRowsAfter plans b rows new.1) (sym name) (subst (λ r. AreRowsAfter plans old.0 r new.1) same own.1);
        }
    by false t own later =
        let more = later (sym (first_found (same_bay bay) old olds false t) ∙ e) in
        record { left = more.left; there = first_found (same_bay bay) new news false (ap (same_bay bay) own.0 ∙ t) ∙ more.there; are = more.are }

pub none_after : (plans : List BayPlan) (olds news : List StackedBay) (bay : YardBay) → AreBaysAfter plans olds news → lookup (same_bay bay) olds ≡ None → lookup (same_bay bay) news ≡ None
none_after plans [] [] bay is e = refl
none_after plans [] (new ∷ news) bay is e = absurd is
none_after plans (old ∷ olds) [] bay is e = absurd is
none_after plans (old ∷ olds) (new ∷ news) bay is e =
    let own : IsBayAfter plans old new = is.0 in
    by (same_bay bay old.0) refl own (λ later. none_after plans olds news bay is.1 later)
  where
    by : (t : Bool) → same_bay bay old.0 ≡ t → IsBayAfter plans old new → (lookup (same_bay bay) olds ≡ None → lookup (same_bay bay) news ≡ None) → lookup (same_bay bay) (new ∷ news) ≡ None
    by true t own later = let found : Some old.1 ≡ None = sym (first_found (same_bay bay) old olds true t) ∙ e in absurd (cc found)
    by false t own later =
        first_found (same_bay bay) new news false (ap (same_bay bay) own.0 ∙ t) ∙ later (sym (first_found (same_bay bay) old olds false t) ∙ e)

-- the bays are the same
pub same_bays : (plans : List BayPlan) (olds news : List StackedBay) → AreBaysAfter plans olds news → map (λ (bay : StackedBay). bay.0) news ≡ map (λ (bay : StackedBay). bay.0) olds
same_bays plans [] [] is = refl
same_bays plans [] (new ∷ news) is = absurd is
same_bays plans (old ∷ olds) [] is = absurd is
same_bays plans (old ∷ olds) (new ∷ news) is =
    let own : IsBayAfter plans old new = is.0 in
    let first : new.0 ≡ old.0 = own.0 in
    let rest = same_bays plans olds news is.1 in
    λ i. first i ∷ rest i

-- ---- the plan of an answered bay

pub turned : (a b : YardBay) → same_bay a b ≡ false → same_bay b a ≡ false
turned a b e = sym (same_bay_laws.symm a b) ∙ e

-- a plan for another bay is not found
find_more : (bay own : YardBay) (plan : Option ProblemPath) (names : List (List ℕ)) (rest : List BayPlan) → same_bay bay own ≡ false
    → plan_for (cons_option (option_map (λ route. record { bay = own; plan = route; names = names }) plan) rest) bay ≡ plan_for rest bay
find_more bay own None names rest other = refl
find_more bay own (Some plan) names rest other = ap (λ b. cond b (Some (record { bay = own; plan = plan; names = names })) (plan_for rest bay)) other

-- its own is
find_own : (own : YardBay) (plan : Option ProblemPath) (names : List (List ℕ)) (rest : List BayPlan) → plan_for rest own ≡ None
    → plan_for (cons_option (option_map (λ route. record { bay = own; plan = route; names = names }) plan) rest) own ≡ option_map (λ route. record { bay = own; plan = route; names = names }) plan
find_own own None names rest none = none
find_own own (Some plan) names rest none = ap (λ b. cond b (Some (record { bay = own; plan = plan; names = names })) (plan_for rest own)) (same_bay_self own)

-- a bay that is none of the answered ones has none of their plans
pub no_plan : (bay : YardBay) (answered : List Answered) → AllByRecursion (λ a. same_bay bay a.stated.bay ≡ false) answered → plan_for (bay_plans answered) bay ≡ None
no_plan bay [] others = refl
no_plan bay (a ∷ answered) others =
    find_more bay a.stated.bay (plan_in a.solved.answer) a.stated.names (bay_plans answered) others.0 ∙ no_plan bay answered others.1

-- each of the answered ones has its own
pub own_plans : (answered : List Answered) → IsDistinct same_bay (map (λ a. a.stated.bay) answered) → AllByRecursion (λ a. plan_for (bay_plans answered) a.stated.bay ≡ bay_plan_in a) answered
unfolding IsDistinct
own_plans [] once = tt
own_plans (a ∷ answered) once =
    let others = unmapped (λ bay. same_bay a.stated.bay bay ≡ false) (λ (b : Answered). b.stated.bay) answered once.0 in (
      find_own a.stated.bay (plan_in a.solved.answer) a.stated.names (bay_plans answered) (no_plan a.stated.bay answered others),
      later answered others (own_plans answered once.1),
    )
  where
    later : (bays : List Answered) → AllByRecursion (λ b. same_bay a.stated.bay b.stated.bay ≡ false) bays → AllByRecursion (λ b. plan_for (bay_plans answered) b.stated.bay ≡ bay_plan_in b) bays
        → AllByRecursion (λ b. plan_for (bay_plans (a ∷ answered)) b.stated.bay ≡ bay_plan_in b) bays
    later [] others own = tt
    later (b ∷ bays) others own =
        (find_more b.stated.bay a.stated.bay (plan_in a.solved.answer) a.stated.names (bay_plans answered) (turned a.stated.bay b.stated.bay others.0) ∙ own.0, later bays others.1 own.1)
