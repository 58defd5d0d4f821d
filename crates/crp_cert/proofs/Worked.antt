-- Worked certificates: trees at the empty path of a problem, and what they show.
use Rattle.std.proofs.Common.{◌≡◌, ◌≢◌, ℕ, ◌≤◌, inl, ⊎_elim, List, [], ◌∷◌, ◌++◌, map, Contains, All, AllPairs, None, refl, sym, ap, ◌∙◌, subst, arith}
use Rattle.std.proofs.lemmas.List.Elements.{All-cons, All-same, All-from_recursion}
use Rattle.crp_plan.specs.Bay.{Problem, IsProblem, Position, start, cap}
use Rattle.crp_plan.specs.Faults.{stated}
use Rattle.crp_bay.specs.Positions.{settled, child, targets}
use Rattle.crp_bay.proofs.Walked.{begins_at}
use Rattle.crp_tree.specs.Tree.{Tree, CutB, CutL, Branch, row}
use Rattle.crp_bay.proofs.Members.{not_in_nil, in_head, in_cons_cases}
use Rattle.crp_tree.specs.Names.{Precedes}
use Rattle.crp_tree.specs.Trees.{Node, nodes, cuts, given_names, value, IsInPlace, HasShape, HasAtLeast, least_value}
use Rattle.crp_tree.specs.Listed.{nodes_below, AreFit}
use Rattle.crp_tree.specs.Claims.{Part, IsPart, nodes_in, given_by}
use Rattle.crp_tree.proofs.Shown.{least_most, from_least}
use Rattle.crp_tree.proofs.Accepted.{nodes_are}
use Rattle.crp_cert.specs.Writing.{CanBeSpelled}
use Rattle.crp_tree.proofs.Listed.{IsBranchOf, branch_of, branch_node}

-- a tree that has its shape at the empty path is a part there
pub part_at_root : (p : Problem) (name : List ℕ) (tree : Tree) → name ≡ [] → IsProblem p → HasShape [] (settled (start p)) tree → IsPart p (record { name = name; tree = tree })
part_at_root p name tree e ok shape = subst (λ n. IsPart p (record { name = n; tree = tree })) (sym e) (record { short = omega arith; place = settled (start p); is_at = begins_at p ok; shape = shape })

-- four containers in three rows of three tiers
abbrev pub four : Problem
four = record { heights = 3 ∷ 3 ∷ 3 ∷ []; ordered = 4; stacks = (1 ∷ 4 ∷ []) ∷ (2 ∷ []) ∷ (3 ∷ []) ∷ [] }

-- what is stated by three rows
pub three_rows : (tiers ordered : ℕ) (p : Problem) (a b c a' b' c' : List ℕ) → p ≡ stated tiers ordered (a ∷ b ∷ c ∷ []) → a ≡ a' → b ≡ b' → c ≡ c' → p ≡ stated tiers ordered (a' ∷ b' ∷ c' ∷ [])
three_rows tiers ordered p a b c a' b' c' e x y z = e ∙ (λ i. stated tiers ordered (x i ∷ y i ∷ z i ∷ []))

-- a tree has its shape at the empty path, and shows the floor there
abbrev pub ShapeAndFloor : ℕ → Tree → Problem → Type 0
ShapeAndFloor floor tree p = HasShape [] (settled (start p)) tree × (floor ≡ least_value (cap p) (nodes [] (settled (start p)) tree))

branch_shows : (p : Problem) (floor : ℕ) (trees : List Tree) (list : List Tree) → let s = settled (start p) in
    trees ≡ list → s.next ≤ s.ordered → AreFit s (targets s) list → All IsInPlace (nodes_below [] s (targets s) list) → floor ≡ least_value (cap p) (nodes_below [] s (targets s) list) → ShapeAndFloor floor (Branch (row trees)) p
branch_shows p floor trees list e le fit in_place is =
    let s : Position = settled (start p) in
    let branch : IsBranchOf (Branch (row trees)) list = subst (IsBranchOf (Branch (row trees))) e (branch_of trees) in (
      record {
        fits = branch.fits s fit;
        in_place = All-same IsInPlace (nodes [] s (Branch (row trees))) (branch_node [] s ∷ nodes_below [] s (targets s) list) (branch.nodes_are [] s) (All-cons IsInPlace (branch_node [] s) (nodes_below [] s (targets s) list) le in_place);
        not_given = λ n. n;
      },
      is ∙ ap (least_value (cap p)) (sym (branch.nodes_are [] s)),
    )

-- by the look-ahead bound the four show 2
pub four_show : (p : Problem) → p ≡ four → ShapeAndFloor 2 CutL p
four_show p is = subst (ShapeAndFloor 2 CutL) (sym is) (record { fits = tt; in_place = All-from_recursion IsInPlace (nodes [] (settled (start four)) CutL) (tt, tt); not_given = λ n. n }, refl)

-- with branches at the empty path and below row 2, and cuts by the blocking bound below these, the four show 2
pub four_branch : (p : Problem) (trees inner : List Tree) → p ≡ four → trees ≡ Branch (row inner) ∷ CutB ∷ [] → inner ≡ CutB ∷ CutB ∷ [] → ShapeAndFloor 2 (Branch (row trees)) p
four_branch p trees inner is e below =
    subst (ShapeAndFloor 2 (Branch (row trees))) (sym is)
    (branch_shows four 2 trees (Branch (row inner) ∷ CutB ∷ []) e (omega arith) (branch.fits second (tt, (tt, tt)), (tt, tt))
    (subst (All IsInPlace) (sym listed) (All-from_recursion IsInPlace list (omega arith, (tt, (tt, (tt, tt))))))
    (ap (least_value (cap four)) (sym listed)))
  where
    first : Position
    first = settled (start four)

    second : Position
    second = child first 2

    branch : IsBranchOf (Branch (row inner)) (CutB ∷ CutB ∷ [])
    branch = subst (IsBranchOf (Branch (row inner))) below (branch_of inner)

    list : List Node
    list = (branch_node (2 ∷ []) second ∷ nodes_below (2 ∷ []) second (targets second) (CutB ∷ CutB ∷ [])) ++ nodes_below [] first (3 ∷ []) (CutB ∷ [])

    listed : nodes_below [] first (targets first) (Branch (row inner) ∷ CutB ∷ []) ≡ list
    listed = ap (λ l. l ++ nodes_below [] first (3 ∷ []) (CutB ∷ [])) (branch.nodes_are (2 ∷ []) second)

-- of one name there are no two
alone : (R : List ℕ → List ℕ → Type 0) (name : List ℕ) → AllPairs R (name ∷ [])
alone R name i j d ij lt = absurd (omega arith)

-- a tree at the empty path that gives nothing, with the least of its values and no plan: a claim that a text can state
pub spelled_at_root : (p : Problem) (tree : Tree) (floor : ℕ) → IsProblem p → ShapeAndFloor floor tree p
    → given_names (nodes [] (settled (start p)) tree) ≡ [] → CanBeSpelled (record { problem = p; lower = floor; plan = None; parts = record { name = []; tree = tree } ∷ [] })
spelled_at_root p tree floor ok shows none =
    let part : Part = record { name = []; tree = tree } in
    let is : IsPart p part = part_at_root p [] tree refl ok shows.0 in
    let own : nodes_in p part ≡ nodes [] (settled (start p)) tree = nodes_are p part (settled (start p)) ok (begins_at p ok) in
    let gives : given_by p part ≡ [] = ap given_names own ∙ none in
    let low : HasAtLeast floor (nodes_in p part) = subst (HasAtLeast floor) (sym own) (from_least floor (cap p) value (cuts (nodes [] (settled (start p)) tree)) (omega (arith, shows.1))) in
    record {
      accepted = record {
        is_problem = ok;
        within_cap = omega (arith, shows.1, least_most (cap p) (map value (cuts (nodes [] (settled (start p)) tree))));
        plan_is = tt;
        each_part = All-from_recursion (IsPart p) (part ∷ []) (is, tt);
        each_cut = All-from_recursion (λ x. HasAtLeast floor (nodes_in p x)) (part ∷ []) (low, tt);
        each_once = alone ◌≢◌ [];
        as_needed = λ name. (
          λ c. ⊎_elim (λ e. inl (sym e)) (λ d. absurd (not_in_nil name d)) (in_cons_cases [] [] name c),
          λ n. ⊎_elim (λ e. subst (Contains ([] ∷ [])) (sym e) (in_head [] []))
              (λ d. absurd (not_in_nil name (subst (λ l. Contains (l ++ []) name) gives d))) n,
        );
      };
      rising = alone Precedes [];
    }
