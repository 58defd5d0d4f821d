-- The cuts and the branches of two lists of nodes, and the least value of their cuts.
use Rattle.std.proofs.Common.{◌≡◌, ℕ, min, List, [], ◌∷◌, ◌++◌, map, ap, ◌∙◌, arith}
use Rattle.std.proofs.lemmas.List.Elements.{filter-append}
use Rattle.std.proofs.lemmas.List.{map-append}
use Rattle.crp_tree.specs.Trees.{Node, is_cut, is_branch, cuts, branches, value, least, least_value}
use Rattle.crp_tree.proofs.Shown.{least_most}

pub cuts-append : (xs ys : List Node) → cuts (xs ++ ys) ≡ cuts xs ++ cuts ys
cuts-append xs ys = filter-append (λ (n : Node). is_cut n.mark) xs ys

pub branches-append : (xs ys : List Node) → branches (xs ++ ys) ≡ branches xs ++ branches ys
branches-append xs ys = filter-append (λ (n : Node). is_branch n.mark) xs ys

pub least_value-append : (most : ℕ) (xs ys : List Node) → least_value most (xs ++ ys) ≡ min (least_value most xs) (least_value most ys)
least_value-append most xs ys = ap (least most) (ap (map value) (cuts-append xs ys) ∙ map-append value (cuts xs) (cuts ys)) ∙ least-append most (map value (cuts xs)) (map value (cuts ys))
  where
    least-append : (most : ℕ) (xs ys : List ℕ) → least most (xs ++ ys) ≡ min (least most xs) (least most ys)
    least-append most [] ys = let low = least_most most ys in omega arith
    least-append most (x ∷ xs) ys = let e = least-append most xs ys in omega arith
