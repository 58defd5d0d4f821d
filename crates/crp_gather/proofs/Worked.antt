-- A branch that gives all of its subtrees away.
use Rattle.std.proofs.Common.{◌≡◌, ℕ, ◌<◌, ◌≤◌, List, [], ◌∷◌, ◌++◌, length, map, replicate, All, refl, sym, ap, ◌∙◌, subst, arith, length-append}
use Rattle.std.proofs.lemmas.List.Elements.{All-nil, All-cons, All-same}
use Rattle.crp_plan.specs.Bay.{Problem, IsProblem, Position, start, cap}
use Rattle.crp_bay.specs.Positions.{settled, targets, child}
use Rattle.crp_bay.proofs.Walked.{begins_at}
use Rattle.crp_tree.specs.Tree.{Tree, Branch, Given, row}
use Rattle.crp_tree.specs.Mark.{G}
use Rattle.crp_tree.specs.Trees.{Node, nodes, cuts, value, IsInPlace, least, least_value}
use Rattle.crp_tree.specs.Listed.{nodes_below, AreFit}
use Rattle.crp_tree.specs.Claims.{IsPart, nodes_in}
use Rattle.crp_tree.proofs.Accepted.{nodes_are}
use Rattle.crp_tree.proofs.Listed.{IsBranchOf, branch_of, branch_node}

-- given subtrees fit
all_fit : (s : Position) (rows : List ℕ) → AreFit s rows (replicate (length rows) Given)
all_fit s [] = tt
all_fit s (row ∷ rows) = (tt, all_fit s rows)

-- they may stand at short paths
all_in_place : (path : List ℕ) (s : Position) (rows : List ℕ) → length path < 8 → All IsInPlace (nodes_below path s rows (replicate (length rows) Given))
all_in_place path s [] lt = All-nil IsInPlace
all_in_place path s (row ∷ rows) lt =
    All-cons IsInPlace (record { path = path ++ row ∷ []; place = child s row; mark = G }) (nodes_below path s rows (replicate (length rows) Given)) (omega (arith, length-append path (row ∷ []))) (all_in_place path s rows lt)

-- and have no cuts
no_cuts : (path : List ℕ) (s : Position) (rows : List ℕ) → cuts (nodes_below path s rows (replicate (length rows) Given)) ≡ []
no_cuts path s [] = refl
no_cuts path s (row ∷ rows) = no_cuts path s rows

-- a branch at the empty path that gives all of its subtrees away, and has the cap for its floor
pub record GivesAll (p : Problem) (name : List ℕ) (tree : Tree) (floor : ℕ) : Type 0 where
  pub is_part : IsPart p (record { name = name; tree = tree })
  pub floor_is : floor ≡ least_value (cap p) (nodes_in p (record { name = name; tree = tree }))

pub gives_all : (p : Problem) (name : List ℕ) (trees : List Tree) (s : Position) (rows : List ℕ) (floor : ℕ) → IsProblem p → name ≡ [] → s ≡ settled (start p) → s.next ≤ s.ordered → rows ≡ targets s
    → trees ≡ replicate (length rows) Given → floor ≡ cap p → GivesAll p name (Branch (row trees)) floor
gives_all p name trees s rows floor ok root at goes are all is = subst (λ n. GivesAll p n (Branch (row trees)) floor) (sym root) (record {
  is_part = record {
    short = omega arith;
    place = s0;
    is_at = begins_at p ok;
    shape = record {
      fits = branch.fits s0 (all_fit s0 (targets s0));
      in_place = All-same IsInPlace (nodes [] s0 (Branch (row trees))) (branch_node [] s0 ∷ below) (branch.nodes_are [] s0)
          (All-cons IsInPlace (branch_node [] s0) below (subst (λ (v : Position). v.next ≤ v.ordered) at goes) (all_in_place [] s0 (targets s0) (omega arith)));
      not_given = λ n. n;
    };
  };
  floor_is = is ∙ sym (ap (least_value (cap p)) (nodes_are p (record { name = []; tree = Branch (row trees) }) s0 ok (begins_at p ok) ∙ branch.nodes_are [] s0) ∙ ap (λ l. least (cap p) (map value l)) (no_cuts [] s0 (targets s0)));
})
  where
    s0 : Position
    s0 = settled (start p)

    below : List Node
    below = nodes_below [] s0 (targets s0) (replicate (length (targets s0)) Given)

    branch : IsBranchOf (Branch (row trees)) (replicate (length (targets s0)) Given)
    branch = subst (IsBranchOf (Branch (row trees))) (all ∙ ap (λ l. replicate (length l) Given) (are ∙ ap targets at)) (branch_of trees)
