-- The problems of the bays, from the containers that leave each.
use Rattle.std.proofs.Common.{◌≡◌, ◌≤◌, ◌<◌, ◌+◌, ◌==◌, ℕ, suc, Bool, true, false, cond, not, List, [], ◌∷◌, ◌++◌, length, take, get_or, map, Some, slice_get, Vec, Global, refl, sym, ap, ◌∙◌, arith}
use Rattle.std.specs.Prelude.{filter}
use Rattle.std.specs.List.{list_any}
use denote.Ref.{Bor}
use Rattle.std.proofs.lemmas.Bool.{ne_eqb}
use Rattle.std.proofs.lemmas.List.{length-map, map-append, length-append, append-nil, take_all}
use Rattle.std.proofs.lemmas.List.Elements.{filter-append}
use Rattle.std.specs.Option.{option_map}
use Rattle.std.proofs.lemmas.Option.{same_Some, slice_get-map, slice_get_read}
use Rattle.crp_plan.specs.BayNames.{YardBay}
use Rattle.crp_plan.specs.Bay.{IsProblem, Problem}
use Rattle.crp_plan.specs.Faults.{stated_with}
use Rattle.crp_plan.proofs.Tallies.{few_containers}
use Rattle.crp_sizes.specs.Sizes.{heights_at}
use Rattle.crp_yard.specs.Inventory.{Inventory, StackedBay, IsYard, times, is_among, name_at}
use Rattle.crp_order.specs.declared.bay_problem.BayProblem.{BayProblem}
use Rattle.crp_order.specs.Sequenced.{AreSequenced}
use Rattle.crp_order.specs.BayProblems.{standing, leaving, ranked, ranks_in, is_called, bay_problem_of}
use Rattle.crp_order.specs.Groups.{stacks_numbered, heights_numbered, pointed, names_behind, CanLeave, IsStated, AreGroups}
use Rattle.crp_yard.proofs.ListingSteps.{times_absent}
use Rattle.crp_order.proofs.Once.{some_times, among, times-filter, once, filter-same}
use Rattle.crp_order.proofs.BaySteps.{names-length, ranks_total, problem_stated}
use Rattle.crp_order.proofs.YardSteps.{AtBay, at_bay, stacks_of_bay, heights_of_bay, can_be, take_next, fits, stands_once}

passes : (b : Bool) (n : ℕ) → 1 ≤ cond b n 0 → b ≡ true
passes true n h = refl
passes false n h = absurd (omega arith)

low : (b : Bool) (n : ℕ) → n ≤ 1 → cond b n 0 ≤ 1
low true n h = h
low false n h = omega arith

-- the containers of a sequence that stand in a bay can leave it
pub can_leave : (sequence : List (List ℕ)) (stacks : List (List (List ℕ))) → AreSequenced sequence → CanLeave (leaving sequence stacks) stacks
can_leave sequence stacks is = record {
  there = λ c e. passes (is_among (standing stacks) c) (times c sequence) (rw (← times-filter (is_among (standing stacks)) c sequence) (some_times c (leaving sequence stacks) e));
  once = λ c. rw (times-filter (is_among (standing stacks)) c sequence) (low (is_among (standing stacks) c) (times c sequence) (once sequence is.once c));
}

among-by_times : (c : List ℕ) (xs ys : List (List ℕ)) → times c xs ≡ times c ys → is_among xs c ≡ is_among ys c
among-by_times c xs ys e = by (is_among xs c) refl
  where
    other : (b : Bool) → is_among ys c ≡ b → is_among xs c ≡ false → false ≡ b
    other true there none = absurd (omega (arith, e, some_times c ys there, times_absent c xs none))
    other false there none = refl

    by : (b : Bool) → is_among xs c ≡ b → b ≡ is_among ys c
    by true here = sym (among c ys (omega (arith, e, some_times c xs here)))
    by false here = other (is_among ys c) refl here

-- behind those that leave come those that the sequence has not
pub names-ranked : (sequence : List (List ℕ)) (stacks : List (List (List ℕ))) → names_behind (leaving sequence stacks) stacks ≡ ranked sequence stacks
names-ranked sequence stacks =
    ap (λ rest. leaving sequence stacks ++ rest)
    (filter-same (λ c. not (is_among (leaving sequence stacks) c)) (λ c. not (is_among sequence c)) (standing stacks)
    (λ c here. ap not (among-by_times c (leaving sequence stacks) sequence (times-filter (is_among (standing stacks)) c sequence ∙ ap (λ b. cond b (times c sequence) 0) (among c (standing stacks) here)))))

-- a bay of a yard is a problem, whichever of its containers leave
pub bay_is_problem : (yard : Inventory) (i : ℕ) (left : List (List ℕ)) → IsYard yard → i < length yard.bays → CanLeave left (stacks_numbered yard i)
    → IsProblem (stated_with (heights_numbered yard i) (length left) (ranks_in (names_behind left (stacks_numbered yard i)) (stacks_numbered yard i)))
bay_is_problem yard i left is h can =
    let able = can_be yard i is h in
    problem_stated (heights_numbered yard i) left (stacks_numbered yard i) able.1 able.0.0 able.0.1 (fits yard i is h) can (stands_once yard i is h)

pub few_names : (yard : Inventory) (i : ℕ) (left : List (List ℕ)) → IsYard yard → i < length yard.bays → CanLeave left (stacks_numbered yard i) → length (names_behind left (stacks_numbered yard i)) ≤ 96
few_names yard i left is h can =
    let names = names_behind left (stacks_numbered yard i) in
    omega (arith, few_containers (stated_with (heights_numbered yard i) (length left) (ranks_in names (stacks_numbered yard i))) (bay_is_problem yard i left is h can), ranks_total names (stacks_numbered yard i), names-length left (stacks_numbered yard i) can (stands_once yard i is h))

-- what is stated of a bay is its problem
one_problem : (made : BayProblem) (bay : YardBay) (problem : Problem) (names : List (List ℕ)) → made.bay ≡ bay → made.problem ≡ problem → made.names ≡ names
    → made ≡ record { bay = bay; problem = problem; names = names }
one_problem made bay problem names b p n = λ k. record { bay = b k; problem = p k; names = n k }

pub stated-problem : (yard : Inventory) (sequence : List (List ℕ)) (i : ℕ) (bay : StackedBay) (left : List (List ℕ)) (made : BayProblem) → slice_get yard.bays i ≡ Some bay → left ≡ leaving sequence bay.1
    → IsStated yard i left made → made ≡ bay_problem_of yard.sizes sequence bay
stated-problem yard sequence i bay left made here e is =
    let stacks : stacks_numbered yard i ≡ bay.1 = stacks_of_bay yard i bay here in
    let name : name_at yard i ≡ Some bay.0 = ap (λ found. Rattle.std.specs.Option.option_map (λ b. b.0) found) here in
    let names : names_behind left (stacks_numbered yard i) ≡ ranked sequence bay.1 = ap (names_behind left) stacks ∙ ap (λ l. names_behind l bay.1) e ∙ names-ranked sequence bay.1 in
    one_problem made bay.0 (stated_with (heights_at yard.sizes bay.0) (length (leaving sequence bay.1)) (ranks_in (ranked sequence bay.1) bay.1)) (ranked sequence bay.1)
    (same_Some made.bay bay.0 (sym is.bay ∙ name))
    (is.problem ∙ ap (λ h. stated_with h (length left) (ranks_in (names_behind left (stacks_numbered yard i)) (stacks_numbered yard i))) (heights_of_bay yard i bay here)
    ∙ ap (λ l. stated_with (heights_at yard.sizes bay.0) (length l) (ranks_in (names_behind left (stacks_numbered yard i)) (stacks_numbered yard i))) e
    ∙ ap (λ n. stated_with (heights_at yard.sizes bay.0) (length (leaving sequence bay.1)) (ranks_in n (stacks_numbered yard i))) names
    ∙ ap (λ s. stated_with (heights_at yard.sizes bay.0) (length (leaving sequence bay.1)) (ranks_in (ranked sequence bay.1) s)) stacks)
    (is.names ∙ names)

-- a bay is called exactly where some container leaves it
any-filter : (p : List ℕ → Bool) (xs : List (List ℕ)) → list_any p xs ≡ not (length (filter p xs) == 0)
any-filter p [] = refl
any-filter p (x ∷ xs) = by (p x) (any-filter p xs)
  where
    by : (b : Bool) → list_any p xs ≡ not (length (filter p xs) == 0) → Rattle.std.specs.Prelude.◌||◌ b (list_any p xs) ≡ not (length (cond b (x ∷ filter p xs) (filter p xs)) == 0)
    by true h = ap not (sym (ne_eqb (suc (length (filter p xs))) 0 (λ e. absurd (omega arith))))
    by false h = h

filter-last : (p : StackedBay → Bool) (bay : StackedBay) (b : Bool) → p bay ≡ b → filter p (bay ∷ []) ≡ cond b (bay ∷ []) []
filter-last p bay b e = ap (λ x. cond x (bay ∷ []) []) e

problems-more : (yard : Inventory) (sequence : List (List ℕ)) (i : ℕ) (bay : StackedBay) (b : Bool) → slice_get yard.bays i ≡ Some bay → is_called sequence bay ≡ b
    → map (bay_problem_of yard.sizes sequence) (filter (is_called sequence) (take (i + 1) yard.bays))
    ≡ map (bay_problem_of yard.sizes sequence) (filter (is_called sequence) (take i yard.bays)) ++ map (bay_problem_of yard.sizes sequence) (cond b (bay ∷ []) [])
problems-more yard sequence i bay b here e =
    ap (λ bays. map (bay_problem_of yard.sizes sequence) (filter (is_called sequence) bays)) (take_next yard.bays i bay here)
    ∙ ap (map (bay_problem_of yard.sizes sequence)) (filter-append (is_called sequence) (take i yard.bays) (bay ∷ []))
    ∙ map-append (bay_problem_of yard.sizes sequence) (filter (is_called sequence) (take i yard.bays)) (filter (is_called sequence) (bay ∷ []))
    ∙ ap (λ l. map (bay_problem_of yard.sizes sequence) (filter (is_called sequence) (take i yard.bays)) ++ map (bay_problem_of yard.sizes sequence) l) (filter-last (is_called sequence) bay b e)

pub problems-next : (yard : Inventory) (sequence : List (List ℕ)) (i : ℕ) (bay : StackedBay) (made : BayProblem) (old new : List BayProblem) → slice_get yard.bays i ≡ Some bay
    → (length (leaving sequence bay.1) == 0) ≡ false → made ≡ bay_problem_of yard.sizes sequence bay
    → old ≡ map (bay_problem_of yard.sizes sequence) (filter (is_called sequence) (take i yard.bays)) → new ≡ old ++ made ∷ []
    → new ≡ map (bay_problem_of yard.sizes sequence) (filter (is_called sequence) (take (i + 1) yard.bays))
problems-next yard sequence i bay made old new here some is before more =
    more ∙ ap (λ l. l ++ made ∷ []) before ∙ ap (λ t. map (bay_problem_of yard.sizes sequence) (filter (is_called sequence) (take i yard.bays)) ++ t ∷ []) is
    ∙ sym (problems-more yard sequence i bay true here (any-filter (is_among (standing bay.1)) sequence ∙ ap not some))

pub problems-same : (yard : Inventory) (sequence : List (List ℕ)) (i : ℕ) (bay : StackedBay) (old : List BayProblem) → slice_get yard.bays i ≡ Some bay
    → (length (leaving sequence bay.1) == 0) ≡ true → old ≡ map (bay_problem_of yard.sizes sequence) (filter (is_called sequence) (take i yard.bays))
    → old ≡ map (bay_problem_of yard.sizes sequence) (filter (is_called sequence) (take (i + 1) yard.bays))
problems-same yard sequence i bay old here none before =
    before ∙ sym (problems-more yard sequence i bay false here (any-filter (is_among (standing bay.1)) sequence ∙ ap not none)
    ∙ append-nil (map (bay_problem_of yard.sizes sequence) (filter (is_called sequence) (take i yard.bays))))

pub few_left : (yard : Inventory) (i : ℕ) (left : List (List ℕ)) → IsYard yard → i < length yard.bays → CanLeave left (stacks_numbered yard i) → length left ≤ 96
few_left yard i left is h can = omega (arith, few_names yard i left is h can, length-append left (filter (λ c. not (is_among left c)) (standing (stacks_numbered yard i))))

-- the bay with a number, and the group of the containers that leave it
pub record AtGroup (yard : Inventory) (sequence : List (List ℕ)) (i : ℕ) (group : List (List ℕ)) : Type 0 where
  pub at : AtBay yard i
  pub leaves : group ≡ leaving sequence at.bay.1

pub group_at : (yard : Inventory) (sequence : List (List ℕ)) (groups : List (Vec (Bor (List ℕ)) Global)) (i : ℕ) (group : Vec (Bor (List ℕ)) Global)
    → AreGroups sequence yard.bays (map (λ g. pointed g.items) groups) → i < length groups → group ≡ get_or groups i group → AtGroup yard sequence i (pointed group.items)
group_at yard sequence groups i group are h e =
    let there : i < length yard.bays = omega (arith, h, are.one_for_each, length-map groups (λ (g : Vec (Bor (List ℕ)) Global). pointed g.items)) in
    let at : AtBay yard i = at_bay yard i there in
    let found : slice_get (map (λ (g : Vec (Bor (List ℕ)) Global). pointed g.items) groups) i ≡ Some (pointed group.items) =
    slice_get-map (λ (g : Vec (Bor (List ℕ)) Global). pointed g.items) groups i ∙ ap (option_map (λ (g : Vec (Bor (List ℕ)) Global). pointed g.items)) (slice_get_read groups (length groups) i group refl h e) in
    record { at = at; leaves = same_Some (pointed group.items) (leaving sequence at.bay.1) (sym found ∙ are.leaving_there i at.bay at.here) }

-- all bays are stated
pub problems-all : (yard : Inventory) (sequence : List (List ℕ)) (groups given : List (Vec (Bor (List ℕ)) Global)) (i : ℕ) (made : List BayProblem)
    → AreGroups sequence yard.bays (map (λ g. pointed g.items) groups) → given ≡ groups → length given ≤ i
    → made ≡ map (bay_problem_of yard.sizes sequence) (filter (is_called sequence) (take i yard.bays)) → made ≡ map (bay_problem_of yard.sizes sequence) (filter (is_called sequence) yard.bays)
problems-all yard sequence groups given i made are same far e =
    let long : length given ≡ length groups = ap length same in
    e ∙ ap (λ bays. map (bay_problem_of yard.sizes sequence) (filter (is_called sequence) bays))
    (take_all i yard.bays (omega (arith, far, long, are.one_for_each, length-map groups (λ (g : Vec (Bor (List ℕ)) Global). pointed g.items))))
