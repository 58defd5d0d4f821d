-- Search trees over the paths of a problem: their nodes, when a tree fits, and the floors that cuts show.
use Rattle.std.specs.Prelude.{◌≡◌, ℕ, ◌+◌, ◌≤◌, min, Bool, true, false, List, [], ◌∷◌, ◌++◌, length, map, filter, Contains, All, codes, ⊤}
use Rattle.crp_tree.specs.Tree.{Tree, CutB, CutL, CutR, Branch, Given, Trees, no_trees, one_and}
use Rattle.crp_plan.specs.declared.moves.Move.{Move}
use Rattle.crp_plan.specs.Bay.{Problem, Position, IsPlan, relocations, path_of}
use Rattle.crp_bounds.specs.Bounds.{blocking, look_ahead}
use Rattle.crp_bay.specs.Positions.{targets, child}
use Rattle.crp_thinning.specs.Symbols.{Closes}
use Rattle.crp_row.specs.Reasons.{AreReasons, reasons_text}
use Rattle.crp_tree.specs.Mark.{Mark, B, L, R, X, G}

-- a node: its path, the position there, and what it is
pub record Node : Type 0 where
  pub path : List ℕ
  pub place : Position
  pub mark : Mark

-- the nodes of a tree at a path that leads to s: a branch before the nodes of its trees, and these by rising rows
abbrev mutual
  pub nodes : List ℕ → Position → Tree → List Node
  nodes path s CutB = record { path = path; place = s; mark = B } ∷ []
  nodes path s CutL = record { path = path; place = s; mark = L } ∷ []
  nodes path s (CutR bound text) = record { path = path; place = s; mark = R bound text } ∷ []
  nodes path s (Branch all) = record { path = path; place = s; mark = X } ∷ nodes_of_each path s (targets s) all
  nodes path s Given = record { path = path; place = s; mark = G } ∷ []

  -- the nodes of the trees below each of the rows
  pub nodes_of_each : List ℕ → Position → List ℕ → Trees → List Node
  nodes_of_each path s [] no_trees = []
  nodes_of_each path s [] (one_and tree trees) = []
  nodes_of_each path s (row ∷ rows) no_trees = []
  nodes_of_each path s (row ∷ rows) (one_and tree trees) = nodes (path ++ row ∷ []) (child s row) tree ++ nodes_of_each path s rows trees

-- the tree fits at s: each branch has one tree for each legal row, rising, so none where the position is finished or dead; and each text of reasons can
-- be one
abbrev mutual
  pub Fits : Position → Tree → Type 0
  Fits s CutB = ⊤
  Fits s CutL = ⊤
  Fits s (CutR bound text) = AreReasons bound text
  Fits s (Branch all) = FitsEach s (targets s) all
  Fits s Given = ⊤

  -- one tree for each of the rows, in their order, which fits at the position that the row leads to
  pub FitsEach : Position → List ℕ → Trees → Type 0
  FitsEach s [] no_trees = ⊤
  FitsEach s [] (one_and tree trees) = ⊥
  FitsEach s (row ∷ rows) no_trees = ⊥
  FitsEach s (row ∷ rows) (one_and tree trees) = Fits (child s row) tree × FitsEach s rows trees

-- how a mark is spelled
abbrev pub spelled : Mark → List ℕ
spelled B = codes "B"
spelled L = codes "L"
spelled (R bound text) = reasons_text bound text
spelled X = codes "X"
spelled G = codes "G"

-- the mark of a cut
abbrev pub is_cut : Mark → Bool
is_cut B = true
is_cut L = true
is_cut (R bound text) = true
is_cut X = false
is_cut G = false

-- the mark of a branch
abbrev pub is_branch : Mark → Bool
is_branch B = false
is_branch L = false
is_branch (R bound text) = false
is_branch X = true
is_branch G = false

-- the mark of a subtree that is given away
abbrev pub is_given : Mark → Bool
is_given B = false
is_given L = false
is_given (R bound text) = false
is_given X = false
is_given G = true

-- the cuts among nodes
abbrev pub cuts : List Node → List Node
cuts list = filter (λ node. is_cut node.mark) list

-- the branches among nodes
abbrev pub branches : List Node → List Node
branches list = filter (λ node. is_branch node.mark) list

-- the given names among nodes: the paths whose subtrees are given to parts of their own
abbrev pub given_names : List Node → List (List ℕ)
given_names list = map (λ node. node.path) (filter (λ node. is_given node.mark) list)

-- the bound that a cut of this mark rests on
abbrev pub bound_by : Mark → Position → ℕ
bound_by B s = blocking s
bound_by L s = look_ahead s
bound_by (R bound text) s = bound
bound_by X s = 0
bound_by G s = 0

-- the value of a cut: the length of its path and its bound of the position there
abbrev pub value : Node → ℕ
value node = length node.path + bound_by node.mark node.place

-- what any plan through the node has at least: the length of the path and the look-ahead bound of the position there
abbrev pub least_through : Node → ℕ
least_through node = length node.path + look_ahead node.place

-- a node may stand at a path that leads to s: reasons where their text shows what they are to show, a branch where that is not finished, a subtree that
-- is given away where the path has 8 rows at most
abbrev pub MayStand : Mark → List ℕ → Position → Type 0
MayStand B path s = ⊤
MayStand L path s = ⊤
MayStand (R bound text) path s = Closes s bound text
MayStand X path s = s.next ≤ s.ordered
MayStand G path s = length path ≤ 8

-- the node may stand where it stands
abbrev pub IsInPlace : Node → Type 0
IsInPlace node = MayStand node.mark node.path node.place

-- the tree is nothing but a subtree that another part has
abbrev pub IsGivenAway : Tree → Type 0
IsGivenAway CutB = ⊥
IsGivenAway CutL = ⊥
IsGivenAway (CutR bound text) = ⊥
IsGivenAway (Branch all) = ⊥
IsGivenAway Given = ⊤

-- the shape of a part's tree at its name, which leads to s: it fits there, each of its nodes may stand where it stands, and it is not given away as a whole
pub record HasShape (name : List ℕ) (s : Position) (tree : Tree) : Type 0 where
  pub fits : Fits s tree
  pub in_place : All IsInPlace (nodes name s tree)
  pub not_given : IsGivenAway tree → ⊥

-- no cut among the nodes has a value below f
abbrev pub HasAtLeast : ℕ → List Node → Type 0
HasAtLeast f list = All (λ cut. f ≤ value cut) (cuts list)

-- the least of the values; `most` where there is none below it
abbrev pub least : ℕ → List ℕ → ℕ
least most [] = most
least most (v ∷ values) = min v (least most values)

-- the least value of the cuts among nodes; `most` where there is none below it
abbrev pub least_value : ℕ → List Node → ℕ
least_value most list = least most (map value (cuts list))

-- the path begins with the name
abbrev pub Begins : List ℕ → List ℕ → Type 0
Begins path name = (rest : List ℕ) × (path ≡ name ++ rest)

-- the floor f is shown at the name: every complete plan whose path begins with the name, and with none of the given names, has at least f relocations
abbrev pub Shows : Problem → List ℕ → List (List ℕ) → ℕ → Type 0
Shows p name given f =
    (moves : List Move) → IsPlan p moves → Begins (path_of moves) name → ((g : List ℕ) → Contains given g → Begins (path_of moves) g → ⊥) → f ≤ relocations moves
