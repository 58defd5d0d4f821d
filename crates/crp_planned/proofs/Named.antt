-- The ranks of a bay's problem name what stands in the bay, whatever the sequence.
use Rattle.std.proofs.Common.{◌≡◌, ◌≤◌, ◌+◌, ℕ, Bool, true, false, cond, not, List, [], ◌∷◌, map, refl, ap, ◌∙◌, arith}
use Rattle.crp_yard.specs.Inventory.{times, is_among}
use Rattle.crp_yard.specs.Ranks.{name_of_rank, named}
use Rattle.crp_yard.proofs.ListingSteps.{times-append}
use Rattle.crp_order.specs.BayProblems.{standing, leaving, staying, ranked, rank_in, ranks_in}
use Rattle.crp_order.proofs.Once.{here, some_times, among, times-filter}
use Rattle.crp_order.proofs.RankSteps.{name_of-rank}

-- each container of the bay has a rank
has_rank : (sequence : List (List ℕ)) (stacks : List (List (List ℕ))) (c : List ℕ) → 1 ≤ times c (standing stacks) → 1 ≤ times c (ranked sequence stacks)
has_rank sequence stacks c stands =
    let both = times-append c (leaving sequence stacks) (staying sequence stacks) in
    let leaves = times-filter (is_among (standing stacks)) c sequence in
    let stays = times-filter (λ d. not (is_among sequence d)) c (standing stacks) in
    let there = among c (standing stacks) stands in
    by (is_among sequence c) refl (leaves ∙ ap (λ b. cond b (times c sequence) 0) there) stays both
  where
    by : (b : Bool) → is_among sequence c ≡ b → times c (leaving sequence stacks) ≡ times c sequence
        → times c (staying sequence stacks) ≡ cond (not (is_among sequence c)) (times c (standing stacks)) 0
        → times c (ranked sequence stacks) ≡ times c (leaving sequence stacks) + times c (staying sequence stacks) → 1 ≤ times c (ranked sequence stacks)
    by true e leaves stays both = omega (arith, leaves, both, some_times c sequence e)
    by false e leaves stays both =
        let all : times c (staying sequence stacks) ≡ times c (standing stacks) = stays ∙ ap (λ b. cond (not b) (times c (standing stacks)) 0) e in
        omega (arith, all, both, stands)

stack_named : (names stack : List (List ℕ)) → ((c : List ℕ) → 1 ≤ times c stack → 1 ≤ times c names) → map (name_of_rank names) (map (rank_in names) stack) ≡ stack
stack_named names [] all = refl
stack_named names (c ∷ stack) all =
    let first : name_of_rank names (rank_in names c) ≡ c = name_of-rank names c (all c (here c stack)) in
    let rest : map (name_of_rank names) (map (rank_in names) stack) ≡ stack = stack_named names stack (λ d h. all d (omega (arith, h))) in
    λ k. first k ∷ rest k

stacks_named : (names : List (List ℕ)) (stacks : List (List (List ℕ))) → ((c : List ℕ) → 1 ≤ times c (standing stacks) → 1 ≤ times c names) → named names (ranks_in names stacks) ≡ stacks
stacks_named names [] all = refl
stacks_named names (stack ∷ stacks) all =
    let first : map (name_of_rank names) (map (rank_in names) stack) ≡ stack = stack_named names stack (λ c h. all c (omega (arith, h, times-append c stack (standing stacks)))) in
    let rest : named names (ranks_in names stacks) ≡ stacks = stacks_named names stacks (λ c h. all c (omega (arith, h, times-append c stack (standing stacks)))) in
    λ k. first k ∷ rest k

pub bay_named : (sequence : List (List ℕ)) (stacks : List (List (List ℕ))) → named (ranked sequence stacks) (ranks_in (ranked sequence stacks) stacks) ≡ stacks
bay_named sequence stacks = stacks_named (ranked sequence stacks) stacks (has_rank sequence stacks)
