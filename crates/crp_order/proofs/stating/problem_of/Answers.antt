use Rattle.std.proofs.Common.{◌≡◌, ◌≤◌, ◌∙◌, ap, arith, length, []}
use Rattle.std.specs.Prelude.{unwrap_or}
use Rattle.std.proofs.lemmas.List.{length-map}
use Rattle.std.proofs.lemmas.Bool.{false≢true}
use Rattle.crp_plan.specs.Bay.{IsProblem}
use Rattle.crp_plan.specs.Faults.{stated_with, stacks_of}
use Rattle.crp_order.specs.BayProblems.{ranks_in}
use Rattle.crp_order.specs.Groups.{pointed, stacks_numbered, heights_numbered, names_behind}
use Rattle.crp_order.proofs.StatingSteps.{bay_is_problem, few_names, few_left}
use Rattle.crp_order.proofs.stating.problem_of.Goals as goal

pub stacks_by_rank-requires : goal.stacks_by_rank-requires
stacks_by_rank-requires c =
    let left = pointed c.args.leaving.now in
    let stacks : pointed c.deref.result.now ≡ stacks_numbered c.args.yard.now c.args.bay = ap pointed c.deref.ensures.value ∙ c.in_ok-stacks.ensures in
    let names : c.deref-2.result.now ≡ names_behind left (stacks_numbered c.args.yard.now c.args.bay) = c.deref-2.ensures.value ∙ c.in_ok-names.ensures ∙ ap (names_behind left) stacks in
    rw names (few_names c.args.yard.now c.args.bay left c.heights-heights.ensures.yard c.requires.bay c.requires.leaving)

pub overflow_cast-leaving : goal.overflow_cast-leaving
overflow_cast-leaving c =
    let left = pointed c.args.leaving.now in
    let few : length left ≤ 96 = few_left c.args.yard.now c.args.bay left c.heights-heights.ensures.yard c.requires.bay c.requires.leaving in
    omega (arith, few, length-map c.args.leaving.now (λ reference. reference.now))

pub unreachable-requires : goal.unreachable-requires
unreachable-requires c =
    let left = pointed c.args.leaving.now in
    let own = stacks_numbered c.args.yard.now c.args.bay in
    let stacks : pointed c.deref.result.now ≡ own = ap pointed c.deref.ensures.value ∙ c.in_ok-stacks.ensures in
    let again : pointed c.deref-3.result.now ≡ own = ap pointed c.deref-3.ensures.value ∙ c.in_ok-stacks.ensures in
    let names : c.deref-2.result.now ≡ names_behind left own = c.deref-2.ensures.value ∙ c.in_ok-names.ensures ∙ ap (names_behind left) stacks in
    let ranks : stacks_of c.deref-4.result.now ≡ ranks_in (names_behind left own) own =
    ap stacks_of c.deref-4.ensures.value ∙ c.in_ok-ranks.ensures ∙ ap (λ n. ranks_in n (pointed c.deref-3.result.now)) names ∙ ap (ranks_in (names_behind left own)) again in
    let heights : heights_numbered c.args.yard.now c.args.bay ≡ c.heights-heights.result.now = ap (λ h. unwrap_or h []) c.heights-heights.ensures.value in
    let is : IsProblem (stated_with c.heights-heights.result.now (length c.args.leaving.now) (stacks_of c.deref-4.result.now)) =
    rw (← heights, ranks, ← length-map c.args.leaving.now (λ reference. reference.now)) (bay_is_problem c.args.yard.now c.args.bay left c.heights-heights.ensures.yard c.requires.bay c.requires.leaving) in
    false≢true (c.in-Err.ensures.accepted.1 is)
