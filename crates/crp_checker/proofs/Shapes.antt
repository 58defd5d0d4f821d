-- A tree whose nodes are right has its shape, and each of its cuts the value that it needs, and the other way round.
use Rattle.std.proofs.Common.{◌≡◌, ℕ, ◌≤◌, ⊎_elim, List, length, Contains, All, refl, subst, arith}
use Rattle.std.specs.List.{AllByRecursion}
use Rattle.std.proofs.lemmas.Bool.{cases_lt}
use Rattle.std.proofs.lemmas.List.Elements.{All-contains, All-from_recursion, recursion_from_All}
use Rattle.crp_plan.specs.Bay.{Problem, IsProblem, Position, IsAt}
use Rattle.crp_plan.proofs.Steps.{unfinished}
use Rattle.crp_bay.proofs.Members.{in_filter, from_filter}
use Rattle.crp_tree.specs.Tree.{Tree}
use Rattle.crp_tree.specs.Mark.{Mark}
use Rattle.crp_tree.specs.Mark.{B, L, R, X, G}
use Rattle.crp_tree.specs.Trees.{Node, nodes, is_cut, cuts, given_names, value, MayStand, IsInPlace}
use Rattle.crp_tree.proofs.InLine.{from_members}
use Rattle.crp_tree.proofs.Nodes.{nodes_at, in_given}
use Rattle.crp_checker.specs.Nodes.{Show, IsRight}

-- a node that is right may stand at its path, if that has 8 rows at most where it is given away
placed : (p : Problem) (need : List ℕ → ℕ) (n : Node) → IsProblem p → IsAt p n.path n.place → IsRight need n → (n.mark ≡ G → length n.path ≤ 8) → IsInPlace n
placed p need n is a right short = by_mark n.mark refl
  where
    by_mark : (m : Mark) → n.mark ≡ m → MayStand m n.path n.place
    by_mark B e = tt
    by_mark L e = tt
    by_mark (R bound text) e = subst (λ m. Show m n.place) e right.shown
    by_mark X e = unfinished p n.path n.place a (λ done. right.not_at_end (e, done))
    by_mark G e = short e

-- so it is with all nodes of a tree, if the paths that it gives have 8 rows at most
pub in_place_from : (p : Problem) (need : List ℕ → ℕ) (path : List ℕ) (s : Position) (tree : Tree) → IsProblem p → IsAt p path s → AllByRecursion (IsRight need) (nodes path s tree) →
    ((g : List ℕ) → Contains (given_names (nodes path s tree)) g → length g ≤ 8) → All IsInPlace (nodes path s tree)
in_place_from p need path s tree is a right short =
    from_members IsInPlace (nodes path s tree) (λ n c.
    placed p need n is (All-contains (λ (k : Node). IsAt p k.path k.place) (nodes path s tree) n (nodes_at p path s tree is a) c)
    (All-contains (IsRight need) (nodes path s tree) n (All-from_recursion (IsRight need) (nodes path s tree) right) c) (λ e. short n.path (in_given (nodes path s tree) n c e)))

-- each cut of the list has the value that it needs
abbrev pub MeetNeed : (List ℕ → ℕ) → List Node → Type 0
MeetNeed need list = All (λ cut. need cut.path ≤ value cut) (cuts list)

-- where nodes are right, each cut has the value that it needs
pub high_from : (need : List ℕ → ℕ) (list : List Node) → AllByRecursion (IsRight need) list → MeetNeed need list
high_from need list right =
    from_members (λ cut. need cut.path ≤ value cut) (cuts list) (λ n c.
    let f = from_filter (λ (node : Node). is_cut node.mark) list n c in
    let own = All-contains (IsRight need) list n (All-from_recursion (IsRight need) list right) f.1 in
    ⊎_elim (λ low. absurd (own.not_low (f.0, low))) (λ le. le) (cases_lt (value n) (need n.path)))

-- nodes that may stand at their paths, of which each cut has the value that it needs, are right
pub right_from : (need : List ℕ → ℕ) (list : List Node) → All IsInPlace list → MeetNeed need list → AllByRecursion (IsRight need) list
right_from need list in_place high = recursion_from_All (IsRight need) list (from_members (IsRight need) list (λ n c. record {
  not_low = λ low.
      let le = All-contains (λ (cut : Node). need cut.path ≤ value cut) (cuts list) n high (in_filter (λ (node : Node). is_cut node.mark) list n c low.0) in
      let lt = low.1 in omega arith;
  not_at_end = λ end.
      let open' = subst (λ m. MayStand m n.path n.place) end.0 (All-contains IsInPlace list n in_place c) in
      let done = end.1 in omega arith;
  shown = shown n.mark n.path n.place (All-contains IsInPlace list n in_place c);
}))
  where
    shown : (mark : Mark) (path : List ℕ) (s : Position) → MayStand mark path s → Show mark s
    shown B path s may = tt
    shown L path s may = tt
    shown (R bound text) path s may = may
    shown X path s may = tt
    shown G path s may = tt
