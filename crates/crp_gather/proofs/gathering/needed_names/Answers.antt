use Rattle.std.proofs.Common.{◌≡◌, List, ℕ, ◌∷◌, [], ◌++◌, flat_map, ap, ◌∙◌, subst}
use Rattle.std.specs.List.Sorted.{IsPermutation}
use Rattle.std.proofs.lemmas.List.{take_all}
use Rattle.crp_tree.specs.Parts.{given_of}
use Rattle.crp_tree.proofs.InOrder.{needed_are}
use Rattle.crp_gather.proofs.gathering.needed_names.Goals as goal

pub returns-clause-all : goal.returns-clause-all
returns-clause-all c =
    let xs = c.args.parts.now in
    let root : List ℕ = c.root.result in
    let before : c.loop-part.needed.items ≡ flat_map given_of xs = c.loop-part.invariant ∙ ap (flat_map given_of) (take_all c.loop-part.part-index xs c.loop-part-test.false) in
    let pushed : c.push.new.self.items ≡ flat_map given_of xs ++ root ∷ [] = c.in_ok-push.ensures.items ∙ ap (λ l. l ++ root ∷ []) before in
    needed_are (flat_map given_of xs) c.sort_unstable.new.self.items root c.root.ensures (subst (λ l. IsPermutation l c.sort_unstable.new.self.items) pushed c.sort_unstable.ensures.permutation)
