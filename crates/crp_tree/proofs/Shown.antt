-- A tree shows each floor that its cuts have.
use Rattle.std.proofs.Common.{◌≡◌, ℕ, ◌+◌, length, ◌≤◌, ◌⊎◌, inl, inr, ⊎_elim, true, List, [], ◌∷◌, ◌++◌, map, Contains, All, refl, sym, ap, ◌∙◌, arith, append_assoc}
use Rattle.std.proofs.lemmas.List.Elements.{All-nil, All-cons, All-head, All-tail, All-contains, Contains-append_left, Contains-append_right}
use Rattle.crp_tree.specs.Tree.{Tree, CutB, CutL, CutR, Branch, Given, Trees, no_trees, one_and}
use Rattle.crp_plan.specs.declared.moves.Move.{Move}
use Rattle.crp_plan.specs.Bay.{Problem, IsProblem, Position, IsPlan, IsAt, relocations, path_of, cap}
use Rattle.crp_bay.specs.Positions.{targets, child}
use Rattle.crp_plan.proofs.Covered.{branch}
use Rattle.crp_bounds.proofs.Floors.{cut_floor}
use Rattle.crp_bay.proofs.Walked.{target_goes_on, every_target}
use Rattle.crp_thinned.proofs.Thinning.{reaches, shows_path}
use Rattle.crp_thinning.specs.Symbols.{Closes}
use Rattle.crp_bay.proofs.Members.{not_in_nil, in_head, in_tail, in_cons_cases, in_filter}
use Rattle.crp_tree.specs.Trees.{Node, nodes, nodes_of_each, Fits, FitsEach, is_cut, cuts, given_names, value, IsInPlace, HasShape, HasAtLeast, least, least_value, Begins, Shows}
use Rattle.crp_tree.proofs.Nodes.{in_given}

-- the plan passes the cut: its path begins with the cut's, and it has at least as many relocations as the cut's value
pub record PassesCut (moves : List Move) (cut : Node) : Type 0 where
  pub begins : Begins (path_of moves) cut.path
  pub enough : value cut ≤ relocations moves

-- the plan passes one of the cuts among the nodes, or goes through a name that they give
abbrev pub Leaves : List Move → List Node → Type 0
Leaves moves list = ((cut : Node) × Contains (cuts list) cut × PassesCut moves cut) ⊎ ((g : List ℕ) × Contains (given_names list) g × Begins (path_of moves) g)

-- the plan has f relocations or more, or goes through a given name
abbrev pub Outcome : List Move → ℕ → List (List ℕ) → Type 0
Outcome moves f given = (f ≤ relocations moves) ⊎ ((g : List ℕ) × Contains given g × Begins (path_of moves) g)

-- a cut among nodes
cut_in : (list : List Node) (n : Node) → Contains list n → is_cut n.mark ≡ true → Contains (cuts list) n
cut_in list n c k = in_filter (λ (node : Node). is_cut node.mark) list n c k

mutual
  -- a plan that passes the path of a tree, whose nodes are among these, passes one of their cuts, or goes through a name that they give
  left : (p : Problem) (list : List Node) (path more : List ℕ) (s : Position) (moves : List Move) → IsProblem p → ((n : Node) → Contains list n → IsInPlace n) → IsAt p path s → IsPlan p moves → path_of moves ≡ path ++ more →
      (tree : Tree) → Fits s tree → ((n : Node) → Contains (nodes path s tree) n → Contains list n) → Leaves moves list
  left p list path more s moves is in_place a plan e CutB fits sub =
      inl (_, cut_in list _ (sub _ (in_head _ [])) refl, record { begins = (more, e); enough = (cut_floor p path more s moves is a plan e).1 })
  left p list path more s moves is in_place a plan e CutL fits sub =
      inl (_, cut_in list _ (sub _ (in_head _ [])) refl, record { begins = (more, e); enough = (cut_floor p path more s moves is a plan e).0 })
  left p list path more s moves is in_place a plan e (CutR bound text) fits sub =
      let shown : Closes s bound text = in_place _ (sub _ (in_head _ [])) in
      let high = (reaches (length path + bound) (length path) s shown.tree shown.fits).1 (omega (arith, shown.reaches)) in
      inl (_, cut_in list _ (sub _ (in_head _ [])) refl, record { begins = (more, e); enough = shows_path p path s shown.tree (length path + bound) moves is a shown.fits high plan (more, e) })
  left p list path more s moves is in_place a plan e Given fits sub = inr (path, in_given list _ (sub _ (in_head _ [])) refl, (more, e))
  left p list path more s moves is in_place a plan e (Branch all) fits sub =
      let b = branch p path more s moves is a (in_place _ (sub _ (in_head _ (nodes_of_each path s (targets s) all)))) plan e in
      let t = b.3 in
      let c = (every_target p path s b.0 t.0 is a t.1).0 in
      left_each p list path s moves is in_place a plan (targets s) (λ r k. k) b.0 b.1 (e ∙ ap (λ l. path ++ l) b.2) c all fits (λ n k. sub n (in_tail _ (nodes_of_each path s (targets s) all) n k))

  -- the same for the trees of some rows, one of which the plan goes by
  left_each : (p : Problem) (list : List Node) (path : List ℕ) (s : Position) (moves : List Move) → IsProblem p → ((n : Node) → Contains list n → IsInPlace n) → IsAt p path s → IsPlan p moves →
      (rows : List ℕ) → ((r : ℕ) → Contains rows r → Contains (targets s) r) → (row : ℕ) (after : List ℕ) → path_of moves ≡ path ++ row ∷ after → Contains rows row →
      (all : Trees) → FitsEach s rows all → ((n : Node) → Contains (nodes_of_each path s rows all) n → Contains list n) → Leaves moves list
  left_each p list path s moves is in_place a plan [] legal row after e c no_trees fits sub = absurd (not_in_nil row c)
  left_each p list path s moves is in_place a plan [] legal row after e c (one_and tree trees) fits sub = absurd fits
  left_each p list path s moves is in_place a plan (r ∷ rows) legal row after e c no_trees fits sub = absurd fits
  left_each p list path s moves is in_place a plan (r ∷ rows) legal row after e c (one_and tree trees) fits sub =
      ⊎_elim
      (λ same. left p list (path ++ r ∷ []) after (child s r) moves is in_place (target_goes_on p path s r is a (legal r (in_head r rows))) plan
      (e ∙ ap (λ x. path ++ x ∷ after) (sym same) ∙ sym (append_assoc path (r ∷ []) after)) tree fits.0 (λ n k. sub n (Contains-append_left _ _ n k)))
      (λ later. left_each p list path s moves is in_place a plan rows (λ x k. legal x (in_tail r rows x k)) row after e later trees fits.1 (λ n k. sub n (Contains-append_right _ _ n k)))
      (in_cons_cases r rows row c)

-- a plan that passes the name of a tree that has its shape leaves by a cut or a given name
pub leaves : (p : Problem) (name : List ℕ) (s : Position) (tree : Tree) (moves : List Move) → IsProblem p → IsAt p name s → Fits s tree → All IsInPlace (nodes name s tree) → IsPlan p moves → Begins (path_of moves) name →
    Leaves moves (nodes name s tree)
leaves p name s tree moves is a fits in_place plan b =
    left p (nodes name s tree) name b.0 s moves is (λ n c. All-contains IsInPlace (nodes name s tree) n in_place c) a plan b.1 tree fits (λ n c. c)

-- so, where no cut is below f, it has f relocations or more, or goes through a given name
pub passing : (p : Problem) (name : List ℕ) (s : Position) (tree : Tree) (f : ℕ) (moves : List Move) → IsProblem p → IsAt p name s → HasShape name s tree → HasAtLeast f (nodes name s tree) → IsPlan p moves → Begins (path_of moves) name →
    Outcome moves f (given_names (nodes name s tree))
passing p name s tree f moves is a shape high plan b = ⊎_elim
    (λ c.
    let cut : Node = c.0 in
    let pass : PassesCut moves cut = c.2 in
    inl (omega (arith, All-contains (λ (n : Node). f ≤ value n) (cuts (nodes name s tree)) cut high c.1, pass.enough)))
    (λ g. inr g)
    (leaves p name s tree moves is a shape.fits shape.in_place plan b)

-- so the tree shows the floor at its name
pub shows : (p : Problem) (name : List ℕ) (s : Position) (tree : Tree) (f : ℕ) → IsProblem p → IsAt p name s → HasShape name s tree → HasAtLeast f (nodes name s tree) → f ≤ cap p →
    Shows p name (given_names (nodes name s tree)) f
shows p name s tree f is a shape high le moves plan b none =
    ⊎_elim (λ k. k) (λ g. absurd (none g.0 g.1 g.2)) (passing p name s tree f moves is a shape high plan b)

-- the least of the values is at most `most`, and no value is below it
pub least_most : (most : ℕ) (values : List ℕ) → least most values ≤ most
least_most most [] = omega arith
least_most most (v ∷ values) = let r = least_most most values in omega arith

-- a number at most `most` that is below none of some values is at most their least, and the other way round
pub least_over : {A : Type 0} (f most : ℕ) (of : A → ℕ) (xs : List A) → f ≤ most → All (λ x. f ≤ of x) xs → f ≤ least most (map of xs)
least_over f most of [] le h = le
least_over f most of (x ∷ xs) le h = omega (arith, All-head (λ y. f ≤ of y) x xs h, least_over f most of xs le (All-tail (λ y. f ≤ of y) x xs h))

pub from_least : {A : Type 0} (f most : ℕ) (of : A → ℕ) (xs : List A) → f ≤ least most (map of xs) → All (λ x. f ≤ of x) xs
from_least f most of [] le = All-nil (λ y. f ≤ of y)
from_least f most of (x ∷ xs) le = All-cons (λ y. f ≤ of y) x xs (omega arith) (from_least f most of xs (omega arith))

-- so it shows the least of its values
pub shows_least : (p : Problem) (name : List ℕ) (s : Position) (tree : Tree) → IsProblem p → IsAt p name s → HasShape name s tree →
    Shows p name (given_names (nodes name s tree)) (least_value (cap p) (nodes name s tree))
shows_least p name s tree is a shape =
    let f : ℕ = least_value (cap p) (nodes name s tree) in
    shows p name s tree f is a shape (from_least f (cap p) value (cuts (nodes name s tree)) (omega arith)) (least_most (cap p) (map value (cuts (nodes name s tree))))
