-- The bays of a yard after one plan more, and that they are those of a yard.
use Rattle.std.proofs.Common.{◌≡◌, ◌≤◌, ◌<◌, ◌+◌, ℕ, suc, Bool, true, false, cond, List, [], ◌∷◌, ◌++◌, map, take, drop, flat_map, length, get_or, All, Option, Some, None, MatchOption, is_some, refl, sym, ap, ◌∙◌, subst, arith, drop-cons, add-one}
use Rattle.std.specs.Prelude.{slice_get}
use Rattle.std.specs.Option.{option_map}
use denote.Ref.{Bor}
use Rattle.std.specs.List.{AllByRecursion, IsDistinct, list_any}
use Rattle.std.specs.Map.{lookup}
use Rattle.std.proofs.lemmas.List.{map-append, take_more, take-append-drop}
use Rattle.indexmap.specs.IndexMap.{IndexMap, insert_entry}
use Rattle.indexmap.proofs.CallerLemmas.{insert_entry-new}
use Rattle.crp_plan.specs.BayNames.{YardBay, same_bay}
use Rattle.crp_sizes.specs.Sizes.{YardSizes, heights_at}
use Rattle.crp_yard.specs.declared.bay_plan.BayPlan.{BayPlan}
use Rattle.crp_yard.specs.Inventory.{Inventory, StackedBay, FitBay, IsYard, times, containers_of}
use Rattle.crp_yard.specs.Ranks.{named}
use Rattle.crp_yard.specs.PlansByBay.{plans_in, AreByBay}
use Rattle.crp_yard.specs.After.{IsPlanForBay, plan_for, stacks_at, LeavesNamed, IsBayAfter, AreBaysAfter, IsAfter}
use Rattle.crp_sizes.proofs.Lists.{all_of, each_of, each_push, each_at, found_in, not_before, not_yet, looked_up, looked}
use Rattle.crp_yard.proofs.ListingSteps.{times-append, no_value}
use Rattle.crp_yard.proofs.BuildingSteps.{take_next}
use Rattle.crp_sizes.proofs.Bays.{same_bay_laws, same_bay_is, same_bay_self}
use Rattle.crp_yard.proofs.LeftSteps.{IsLeft, left_fits}

module _ (plans : List BayPlan) where
  pub after_more : (olds news : List StackedBay) (old new : StackedBay) → AreBaysAfter plans olds news → IsBayAfter plans old new → AreBaysAfter plans (olds ++ old ∷ []) (news ++ new ∷ [])
  after_more [] [] old new h k = (k, tt)
  after_more [] (n ∷ news) old new h k = absurd h
  after_more (o ∷ olds) [] old new h k = absurd h
  after_more (o ∷ olds) (n ∷ news) old new h k = (h.0, after_more olds news old new h.1 k)

  same_names : (olds news : List StackedBay) → AreBaysAfter plans olds news → map (λ (b : StackedBay). b.0) news ≡ map (λ (b : StackedBay). b.0) olds
  same_names [] [] h = refl
  same_names [] (n ∷ news) h = absurd h
  same_names (o ∷ olds) [] h = absurd h
  same_names (o ∷ olds) (n ∷ news) h = λ i. h.0.0 i ∷ same_names olds news h.1 i

  -- one bay more
  pub after_next : {S : Type 0} (bays : List StackedBay) (i : ℕ) (old : StackedBay) (m : IndexMap YardBay (List (List (List ℕ))) S) (left : List (List (List ℕ))) (new : List StackedBay)
      → IsDistinct same_bay (map (λ (b : StackedBay). b.0) bays) → slice_get bays i ≡ Some old → AreBaysAfter plans (take i bays) m.entries
      → MatchOption (plan_for plans old.0) (left ≡ old.1) (λ plan. LeavesNamed plan left) → new ≡ insert_entry same_bay m.entries old.0 left → AreBaysAfter plans (take (i + 1) bays) new
  after_next bays i old m left new once at before here e =
      let fresh = not_yet same_bay same_bay_laws bays i old once at in
      let names = same_names (take i bays) m.entries before in
      let absent : is_some (lookup (same_bay old.0) m.entries) ≡ false = looked (same_bay old.0) m.entries ∙ ap (list_any (same_bay old.0)) names ∙ sym (looked (same_bay old.0) (take i bays)) ∙ fresh in
      let pushed : new ≡ m.entries ++ (old.0, left) ∷ [] = e ∙ insert_entry-new same_bay m old.0 left (no_value (lookup (same_bay old.0) m.entries) absent) in
      let next : take (i + 1) bays ≡ take i bays ++ old ∷ [] = rw add-one (take_next bays i old at) in
      rw (next, pushed) (after_more (take i bays) m.entries old (old.0, left) before (refl, here))

-- a plan by the name of its bay
pub plan_looked : (bay : YardBay) (entries : List (YardBay × Bor BayPlan)) → AreByBay entries → plan_for (plans_in entries) bay ≡ option_map (λ (plan : Bor BayPlan). plan.now) (lookup (same_bay bay) entries)
plan_looked bay [] keyed = refl
plan_looked bay (e ∷ entries) keyed = rw keyed.0 (by (same_bay bay e.1.now.bay) (plan_looked bay entries keyed.1))
  where
    by : (b : Bool) → plan_for (plans_in entries) bay ≡ option_map (λ (plan : Bor BayPlan). plan.now) (lookup (same_bay bay) entries)
        → cond b (Some e.1.now) (plan_for (plans_in entries) bay) ≡ option_map (λ (plan : Bor BayPlan). plan.now) (cond b (Some e.1) (lookup (same_bay bay) entries))
    by true h = refl
    by false h = h

-- the plans so far are kept by their bays
pub record ArePlansSoFar (plans : List BayPlan) (entries : List (YardBay × Bor BayPlan)) : Type 0 where
  pub all : plans_in entries ≡ plans
  pub keyed : AreByBay entries

pub one_plan_more : {S : Type 0} (plans : List BayPlan) (i : ℕ) (m : IndexMap YardBay (Bor BayPlan) S) (new : List (YardBay × Bor BayPlan)) (key : YardBay) (plan : Bor BayPlan) → new ≡ insert_entry same_bay m.entries key plan
    → key ≡ plan.now.bay → IsDistinct same_bay (map (λ plan. plan.bay) plans) → i < length plans → plan.now ≡ get_or plans i plan.now
    → ArePlansSoFar (take i plans) m.entries → ArePlansSoFar (take (i + 1) plans) new
one_plan_more plans i m new key plan put named once within at before =
    let e : new ≡ insert_entry same_bay m.entries plan.now.bay plan = put ∙ ap (λ k. insert_entry same_bay m.entries k plan) named in
    let next : take (i + 1) plans ≡ take i plans ++ plan.now ∷ [] = take_more plans i plan.now within ∙ ap (λ p. take i plans ++ p ∷ []) (sym at) in
    let cut : drop i plans ≡ plan.now ∷ drop (i + 1) plans = rw add-one (drop-cons plans i plan.now within ∙ ap (λ p. p ∷ drop (suc i) plans) (sym at)) in
    let split : plans ≡ take i plans ++ plan.now ∷ drop (i + 1) plans = sym (take-append-drop i plans) ∙ ap (λ l. take i plans ++ l) cut in
    let apart : IsDistinct same_bay (map (λ plan. plan.bay) (take i plans ++ plan.now ∷ drop (i + 1) plans)) = subst (λ l. IsDistinct same_bay (map (λ plan. plan.bay) l)) split once in
    let fresh : plan_for (take i plans) plan.now.bay ≡ None = not_before same_bay same_bay_laws (λ plan. plan.bay) (take i plans) plan.now (drop (i + 1) plans) apart in
    let found = plan_looked plan.now.bay m.entries before.keyed in
    let absent : is_some (lookup (same_bay plan.now.bay) m.entries) ≡ false = sym (some_mapped (lookup (same_bay plan.now.bay) m.entries)) ∙ ap is_some (sym found ∙ ap (λ ps. plan_for ps plan.now.bay) before.all ∙ fresh) in
    let pushed : new ≡ m.entries ++ (plan.now.bay, plan) ∷ [] = e ∙ insert_entry-new same_bay m plan.now.bay plan (no_value (lookup (same_bay plan.now.bay) m.entries) absent) in
    record {
      all = rw (next, pushed, map-append (λ (entry : YardBay × Bor BayPlan). entry.1.now) m.entries ((plan.now.bay, plan) ∷ []), before.all) refl;
      keyed = rw pushed (each_push (λ (entry : YardBay × Bor BayPlan). entry.0 ≡ entry.1.now.bay) m.entries (plan.now.bay, plan) before.keyed refl);
    }
  where
    some_mapped : (o : Option (Bor BayPlan)) → is_some (option_map (λ (plan : Bor BayPlan). plan.now) o) ≡ is_some o
    some_mapped None = refl
    some_mapped (Some x) = refl

-- what the plans leave of the bays
pub record AreKept (sizes : YardSizes) (old new : List StackedBay) : Type 0 where
  pub names : map (λ (b : StackedBay). b.0) new ≡ map (λ (b : StackedBay). b.0) old
  pub fits : AllByRecursion (λ (b : StackedBay). FitBay (heights_at sizes b.0) b.1) new
  pub fewer : (c : List ℕ) → times c (containers_of new) ≤ times c (containers_of old)

one_kept : (yard : Inventory) (plans : List BayPlan) (old new : StackedBay) → AllByRecursion (IsPlanForBay yard) plans
    → FitBay (heights_at yard.sizes old.0) old.1 → stacks_at yard.bays old.0 ≡ Some old.1 → IsBayAfter plans old new → IsLeft (heights_at yard.sizes old.0) old.1 new.1
one_kept yard plans old new of fit at h = by (plan_for plans old.0) refl h.1
  where
    by : (o : Option BayPlan) → plan_for plans old.0 ≡ o → MatchOption (plan_for plans old.0) (new.1 ≡ old.1) (λ p. LeavesNamed p new.1) → IsLeft (heights_at yard.sizes old.0) old.1 new.1
    by None e k =
        let same : new.1 ≡ old.1 = rw e at k in
        rw same (record { fits = fit; fewer = λ c. omega arith })
    by (Some p) e k =
        let leaves : LeavesNamed p new.1 = rw e at k in
        let own = found_in (IsPlanForBay yard) (λ p. same_bay old.0 p.bay) plans p of e in
        let bay : old.0 ≡ p.bay = same_bay_is old.0 p.bay own.1 in
        let both : Some old.1 ≡ Some (named p.names p.plan.problem.stacks) = sym at ∙ ap (stacks_at yard.bays) bay ∙ own.0.stands in
        let before : old.1 ≡ named p.names p.plan.problem.stacks = cc both in
        rw (before, leaves.2) (left_fits p.plan p.names leaves.0 (heights_at yard.sizes old.0) leaves.1.is_problem (own.0.heights ∙ ap (heights_at yard.sizes) (sym bay)) leaves.1)

pub all_kept : (yard : Inventory) (plans : List BayPlan) (olds news : List StackedBay) → AllByRecursion (IsPlanForBay yard) plans
    → AllByRecursion (λ (b : StackedBay). FitBay (heights_at yard.sizes b.0) b.1) olds → AllByRecursion (λ (b : StackedBay). stacks_at yard.bays b.0 ≡ Some b.1) olds
    → AreBaysAfter plans olds news → AreKept yard.sizes olds news
all_kept yard plans [] [] of fits at h = record { names = refl; fits = tt; fewer = λ c. omega arith }
all_kept yard plans [] (new ∷ news) of fits at h = absurd h
all_kept yard plans (old ∷ olds) [] of fits at h = absurd h
all_kept yard plans (old ∷ olds) (new ∷ news) of fits at h =
    let rest = all_kept yard plans olds news of fits.1 at.1 h.1 in
    let own = one_kept yard plans old new of fits.0 at.0 h.0 in
    record {
      names = rw (h.0.0, rest.names) refl;
      fits = (subst (λ (name : YardBay). FitBay (heights_at yard.sizes name) new.1) (sym h.0.0) own.fits, rest.fits);
      fewer = λ c. omega (arith, times-append c (flat_map (λ (s : List (List ℕ)). s) new.1) (containers_of news), times-append c (flat_map (λ (s : List (List ℕ)). s) old.1) (containers_of olds), own.fewer c, rest.fewer c);
    }

pub after_is_yard : (yard : Inventory) (plans : List BayPlan) (news : List StackedBay) → IsYard yard → All (IsPlanForBay yard) plans → AreBaysAfter plans yard.bays news
    → IsYard (record { sizes = yard.sizes; bays = news })
after_is_yard yard plans news sound of done =
    let at = each_at (λ (b : StackedBay). stacks_at yard.bays b.0 ≡ Some b.1) yard.bays (λ i b e. looked_up same_bay same_bay_laws yard.bays i b same_bay_self sound.bays_once e) in
    let kept = all_kept yard plans yard.bays news (each_of (IsPlanForBay yard) plans of) (each_of (λ (b : StackedBay). FitBay (heights_at yard.sizes b.0) b.1) yard.bays sound.bays_fit) at done in
    record {
      sizes_fit = sound.sizes_fit;
      bays_fit = all_of (λ (b : StackedBay). FitBay (heights_at yard.sizes b.0) b.1) news kept.fits;
      bays_once = rw kept.names sound.bays_once;
      containers_once = λ c. omega (arith, kept.fewer c, sound.containers_once c);
    }

pub after_all : (yard after : Inventory) (plans : List BayPlan) (sizes : YardSizes) (bays : List StackedBay) → sizes ≡ yard.sizes → AreBaysAfter plans yard.bays bays
    → after ≡ record { sizes = sizes; bays = bays } → IsAfter yard plans after
after_all yard after plans sizes bays same done e = record {
  same_sizes = ap (λ y. y.sizes) e ∙ same;
  bays = subst (AreBaysAfter plans yard.bays) (sym (ap (λ y. y.bays) e)) done;
}
