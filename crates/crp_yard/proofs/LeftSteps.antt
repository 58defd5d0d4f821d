-- What a plan leaves fits the bay, and no container stands there more often than before.
use Rattle.std.proofs.Common.{◌≡◌, ◌≤◌, ◌+◌, ◌-◌, ℕ, List, [], ◌∷◌, ◌++◌, map, flat_map, Some, slice_get, slice_set, sum_by, refl, sym, subst, ap, ◌∙◌, arith}
use Rattle.std.proofs.lemmas.List.{map-append, length-map}
use Rattle.std.proofs.lemmas.List.Sums.{sum_by-cons}
use Rattle.crp_plan.specs.declared.moves.Move.{Move}
use Rattle.crp_plan.specs.declared.moves.Move.TheVariants.{Shift, Take}
use Rattle.crp_plan.specs.Rows.{FitRows}
use Rattle.crp_plan.specs.Bay.{Position, IsProblem, IsTaken, IsShifted, Runs, start}
use Rattle.crp_plan.specs.Plans.{ProblemPath}
use Rattle.crp_plan.proofs.Lists.{sum_put, get_put_other}
use Rattle.crp_plan.proofs.Sound.{sound_start, sound_runs, apart}
use Rattle.crp_plan.proofs.Steps.{heights_kept}
use Rattle.crp_yard.specs.Inventory.{FitBay, times}
use Rattle.crp_yard.specs.Ranks.{name_of_rank, named, Leaves}
use Rattle.crp_yard.proofs.ListingSteps.{times-append}

-- how often the name stands in stacks of ranks
abbrev tally : List (List ℕ) → List ℕ → List (List ℕ) → ℕ
tally names c stacks = sum_by (λ stack. times c (map (name_of_rank names) stack)) stacks

tally-is : (names : List (List ℕ)) (c : List ℕ) (stacks : List (List ℕ)) → times c (flat_map (λ (stack : List (List ℕ)). stack) (named names stacks)) ≡ tally names c stacks
tally-is names c [] = refl
tally-is names c (stack ∷ stacks) =
    omega (arith, times-append c (map (name_of_rank names) stack) (flat_map (λ (s : List (List ℕ)). s) (named names stacks)), tally-is names c stacks, sum_by-cons (λ s. times c (map (name_of_rank names) s)) stack stacks)

one_more : (names : List (List ℕ)) (c : List ℕ) (rest : List ℕ) (x : ℕ) → times c (map (name_of_rank names) (rest ++ x ∷ [])) ≡ times c (map (name_of_rank names) rest) + times c (name_of_rank names x ∷ [])
one_more names c rest x = ap (times c) (map-append (name_of_rank names) rest (x ∷ [])) ∙ times-append c (map (name_of_rank names) rest) (name_of_rank names x ∷ [])

fewer_taken : (names : List (List ℕ)) (c : List ℕ) (s : Position) (row : ℕ) (t : Position) → IsTaken s row t → tally names c t.stacks ≤ tally names c s.stacks
fewer_taken names c s row t k =
    let after : t.stacks ≡ slice_set s.stacks (row - 1) k.rest = ap (λ v. v.stacks) k.after in
    rw after (omega (arith, sum_put (λ stack. times c (map (name_of_rank names) stack)) s.stacks (row - 1) (k.rest ++ s.next ∷ []) k.rest k.stack, one_more names c k.rest s.next))

same_shifted : (names : List (List ℕ)) (c : List ℕ) (s : Position) (from to : ℕ) (t : Position) → IsShifted s from to t → tally names c t.stacks ≤ tally names c s.stacks
same_shifted names c s from to t k =
    let g = λ (stack : List ℕ). times c (map (name_of_rank names) stack) in
    let mid = slice_set s.stacks (from - 1) k.rest in
    let after : t.stacks ≡ slice_set mid (to - 1) (k.onto ++ k.moved ∷ []) = ap (λ v. v.stacks) k.after in
    let target : slice_get mid (to - 1) ≡ Some k.onto = get_put_other s.stacks (from - 1) (to - 1) k.rest (apart from to k.from_counts k.to_counts k.another) ∙ k.target in
    rw after (omega (arith, sum_put g s.stacks (from - 1) (k.rest ++ k.moved ∷ []) k.rest k.stack, one_more names c k.rest k.moved, sum_put g mid (to - 1) k.onto (k.onto ++ k.moved ∷ []) target, one_more names c k.onto k.moved))

fewer_run : (names : List (List ℕ)) (c : List ℕ) (s t : Position) (moves : List Move) → Runs s moves t → tally names c t.stacks ≤ tally names c s.stacks
fewer_run names c s t [] r = let same : t.stacks ≡ s.stacks = ap (λ v. v.stacks) (sym r) in rw same (omega arith)
fewer_run names c s t (Shift from to ∷ moves) r = let step : tally names c r.0.stacks ≤ tally names c s.stacks = same_shifted names c s from to r.0 r.1 in omega (arith, step, fewer_run names c r.0 t moves r.2)
fewer_run names c s t (Take row ∷ moves) r = let step : tally names c r.0.stacks ≤ tally names c s.stacks = fewer_taken names c s row r.0 r.1 in omega (arith, step, fewer_run names c r.0 t moves r.2)

fit_named : (names : List (List ℕ)) (heights : List ℕ) (stacks : List (List ℕ)) → FitRows heights stacks → FitBay heights (named names stacks)
fit_named names [] [] fit = tt
fit_named names [] (stack ∷ stacks) fit = absurd fit
fit_named names (height ∷ heights) [] fit = absurd fit
fit_named names (height ∷ heights) (stack ∷ stacks) fit = (rw (length-map stack (name_of_rank names)) fit.0, fit_named names heights stacks fit.1)

-- what a plan leaves of a bay
pub record IsLeft (heights : List ℕ) (old new : List (List (List ℕ))) : Type 0 where
  pub fits : FitBay heights new
  pub fewer : (c : List ℕ) → times c (flat_map (λ (stack : List (List ℕ)). stack) new) ≤ times c (flat_map (λ (stack : List (List ℕ)). stack) old)

pub left_fits : (plan : ProblemPath) (names : List (List ℕ)) (ranks : List (List ℕ)) (heights : List ℕ) → IsProblem plan.problem → plan.problem.heights ≡ heights → Leaves plan ranks
    → IsLeft heights (named names plan.problem.stacks) (named names ranks)
left_fits plan names ranks heights is high leaves =
    let sound = sound_runs (start plan.problem) leaves.moves leaves.end (sound_start plan.problem is) leaves.runs in
    let same : leaves.end.heights ≡ heights = heights_kept (start plan.problem) leaves.end leaves.moves leaves.runs ∙ high in
    record {
      fits = rw leaves.left (fit_named names heights leaves.end.stacks (subst (λ l. FitRows l leaves.end.stacks) same sound.stacks_fit));
      fewer = λ c. rw (tally-is names c plan.problem.stacks, tally-is names c ranks, leaves.left) (fewer_run names c (start plan.problem) leaves.end leaves.moves leaves.runs);
    }
