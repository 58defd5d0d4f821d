use Rattle.std.proofs.Common.{ℕ, List, map, not, subst, ap, ◌∙◌}
use Rattle.std.specs.Prelude.{filter}
use Rattle.std.specs.List.Sorted.{IsPermutation}
use Rattle.std.proofs.lemmas.List.{take_all}
use Rattle.std.proofs.lemmas.List.Sorted.{IsPermutation-map}
use Rattle.crp_yard.specs.Inventory.{stands}
use Rattle.crp_notes.proofs.containers.absent_names.Goals as goal

pub returns : goal.returns
returns c =
    let all = take_all c.loop-container.container-index c.list-container-items.result.now c.loop-container-test.false in
    let kept = filter (λ (container : List ℕ). not (stands c.args.yard.now.bays container)) in
    let e = c.loop-container.invariant ∙ ap kept (all ∙ c.list-container-items.ensures.value) in
    subst (λ xs. IsPermutation xs (map (λ name. name.now) c.sort.new.self.items)) e
    (IsPermutation-map (λ name. name.now) c.loop-container.names.items c.sort.new.self.items c.sort.ensures.permutation)
