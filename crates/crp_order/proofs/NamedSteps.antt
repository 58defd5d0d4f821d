-- The ranks of a bay, read as names.
use Rattle.std.proofs.Common.{◌≡◌, ◌≤◌, ◌<◌, ℕ, List, [], ◌∷◌, length, map, get_or, All, Some, slice_get, refl, sym, ap, ◌∙◌, subst, arith}
use Rattle.std.specs.Prelude.{filter}
use Rattle.std.specs.List.{IsDistinct}
use Rattle.std.specs.Cmp.{IsEquivalence}
use Rattle.std.proofs.lemmas.Cmp.{nat_list_eq_equiv, nat_eq_equiv, on_equiv, and_equiv}
use Rattle.std.proofs.lemmas.List.Elements.{All-map, All-filter}
use Rattle.std.proofs.lemmas.Map.Entries.{lookup_from_place}
use Rattle.std.proofs.lemmas.Map.Made.{IsDistinct-keys_filter}
use Rattle.std.proofs.lemmas.Option.{slice_get-get_or}
use Rattle.crp_plan.specs.Bay.{IsProblem}
use Rattle.crp_plan.specs.Faults.{stated_with}
use Rattle.crp_plan.specs.BayNames.{YardBay, same_bay}
use Rattle.crp_sizes.specs.Sizes.{YardSizes, heights_at}
use Rattle.crp_yard.specs.Inventory.{Inventory, StackedBay, IsYard, times}
use Rattle.crp_yard.specs.Ranks.{name_of_rank, named}
use Rattle.crp_order.specs.declared.bay_problem.BayProblem.{BayProblem}
use Rattle.crp_order.specs.Sequenced.{AreSequenced}
use Rattle.crp_order.specs.BayProblems.{standing, leaving, ranked, rank_in, ranks_in, is_called, bay_problem_of, IsNamed}
use Rattle.crp_order.specs.Groups.{stacks_numbered, names_behind, CanLeave}
use Rattle.crp_yard.proofs.ListingSteps.{times-append}
use Rattle.crp_order.proofs.Once.{here}
use Rattle.crp_order.proofs.RankSteps.{name_of-rank}
use Rattle.crp_order.proofs.BaySteps.{names-times, names-length, ranks_total}
use Rattle.crp_order.proofs.YardSteps.{stacks_of_bay, heights_of_bay, stands_once}
use Rattle.crp_order.proofs.StatingSteps.{can_leave, names-ranked, bay_is_problem}

pub same_bay_equiv : IsEquivalence same_bay
same_bay_equiv = and_equiv (on_equiv (λ (bay : YardBay). bay.block) nat_list_eq_equiv) (on_equiv (λ (bay : YardBay). bay.bay) nat_eq_equiv)

stack_named : (names stack : List (List ℕ)) → ((c : List ℕ) → 1 ≤ times c stack → 1 ≤ times c names) → map (name_of_rank names) (map (rank_in names) stack) ≡ stack
stack_named names [] all = refl
stack_named names (c ∷ stack) all =
    let first : name_of_rank names (rank_in names c) ≡ c = name_of-rank names c (all c (here c stack)) in
    let rest : map (name_of_rank names) (map (rank_in names) stack) ≡ stack = stack_named names stack (λ d h. all d (omega (arith, h))) in
    λ k. first k ∷ rest k

-- the ranks of a bay's containers name them
stacks_named : (names : List (List ℕ)) (stacks : List (List (List ℕ))) → ((c : List ℕ) → 1 ≤ times c (standing stacks) → 1 ≤ times c names) → named names (ranks_in names stacks) ≡ stacks
stacks_named names [] all = refl
stacks_named names (stack ∷ stacks) all =
    let first : map (name_of_rank names) (map (rank_in names) stack) ≡ stack = stack_named names stack (λ c h. all c (omega (arith, h, times-append c stack (standing stacks)))) in
    let rest : named names (ranks_in names stacks) ≡ stacks = stacks_named names stacks (λ c h. all c (omega (arith, h, times-append c stack (standing stacks)))) in
    λ k. first k ∷ rest k

-- the problem of a bay states the bay
bay_named : (yard : Inventory) (sequence : List (List ℕ)) (i : ℕ) (bay : StackedBay) → IsYard yard → AreSequenced sequence → i < length yard.bays → slice_get yard.bays i ≡ Some bay
    → IsNamed yard (bay_problem_of yard.sizes sequence bay)
bay_named yard sequence i bay is sequenced there at =
    let own : stacks_numbered yard i ≡ bay.1 = stacks_of_bay yard i bay at in
    let once : (c : List ℕ) → times c (standing bay.1) ≤ 1 = subst (λ s. (c : List ℕ) → times c (standing s) ≤ 1) own (stands_once yard i is there) in
    let can : CanLeave (leaving sequence bay.1) bay.1 = can_leave sequence bay.1 sequenced in
    let same : names_behind (leaving sequence bay.1) bay.1 ≡ ranked sequence bay.1 = names-ranked sequence bay.1 in
    let often : (c : List ℕ) → times c (ranked sequence bay.1) ≡ times c (standing bay.1) = λ c. ap (times c) (sym same) ∙ names-times (leaving sequence bay.1) bay.1 can once c in
    record {
      is_problem = subst (λ names. IsProblem (stated_with (heights_at yard.sizes bay.0) (length (leaving sequence bay.1)) (ranks_in names bay.1))) same
          (subst (λ stacks. IsProblem (stated_with (heights_at yard.sizes bay.0) (length (leaving sequence bay.1)) (ranks_in (names_behind (leaving sequence bay.1) stacks) stacks))) own
          (subst (λ heights. IsProblem (stated_with heights (length (leaving sequence bay.1)) (ranks_in (names_behind (leaving sequence bay.1) (stacks_numbered yard i)) (stacks_numbered yard i))))
          (heights_of_bay yard i bay at) (bay_is_problem yard i (leaving sequence bay.1) is there (subst (CanLeave (leaving sequence bay.1)) (sym own) can))));
      heights = refl;
      stands = lookup_from_place same_bay_equiv yard.bays i bay.0 bay.1 is.bays_once at ∙ ap Some (sym (stacks_named (ranked sequence bay.1) bay.1 (λ c h. omega (arith, h, often c))));
      each_rank = ap length (sym same) ∙ names-length (leaving sequence bay.1) bay.1 can once ∙ sym (ranks_total (ranked sequence bay.1) bay.1);
    }

pub all_named : (yard : Inventory) (sequence : List (List ℕ)) (made : List BayProblem) → IsYard yard → AreSequenced sequence
    → made ≡ map (bay_problem_of yard.sizes sequence) (filter (is_called sequence) yard.bays) → All (IsNamed yard) made
all_named yard sequence made is sequenced e =
    subst (All (IsNamed yard)) (sym e)
    (All-map (IsNamed yard) (bay_problem_of yard.sizes sequence) (filter (is_called sequence) yard.bays)
    (All-filter (is_called sequence) (λ bay. IsNamed yard (bay_problem_of yard.sizes sequence bay)) yard.bays
    (λ i d there. bay_named yard sequence i (get_or yard.bays i d) is sequenced there (slice_get-get_or yard.bays i d there))))

bays_made : (sizes : YardSizes) (sequence : List (List ℕ)) (bays : List StackedBay) → map (λ made. made.bay) (map (bay_problem_of sizes sequence) bays) ≡ map (λ bay. bay.0) bays
bays_made sizes sequence [] = refl
bays_made sizes sequence (bay ∷ bays) = ap (λ names. bay.0 ∷ names) (bays_made sizes sequence bays)

pub all_once : (yard : Inventory) (sequence : List (List ℕ)) (made : List BayProblem) → IsYard yard → made ≡ map (bay_problem_of yard.sizes sequence) (filter (is_called sequence) yard.bays)
    → IsDistinct same_bay (map (λ p. p.bay) made)
all_once yard sequence made is e =
    subst (IsDistinct same_bay) (sym (ap (map (λ (p : BayProblem). p.bay)) e ∙ bays_made yard.sizes sequence (filter (is_called sequence) yard.bays))) (IsDistinct-keys_filter same_bay (is_called sequence) yard.bays is.bays_once)
