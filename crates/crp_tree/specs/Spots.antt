-- Where trees are owed: a branch owes one for each legal row, and symbols pay them, one after the other.
use Rattle.std.specs.Prelude.{◌≡◌, ℕ, List, [], ◌∷◌, ◌++◌, length, ⊤}
use Rattle.crp_plan.specs.Bay.{Position}
use Rattle.crp_bay.specs.Positions.{targets, child}
use Rattle.crp_row.specs.Symbol.{Symbol}
use Rattle.crp_row.specs.Symbol as symbol
use Rattle.crp_row.specs.Reasons.{AreReasons}
use Rattle.crp_tree.specs.Tree.{Tree}
use Rattle.crp_tree.specs.Mark.{Mark, B, L, R, X, G}
use Rattle.crp_tree.specs.Trees.{Node, nodes, spelled, Fits}

-- where a tree is owed: the path that it is to stand at, and the position there
pub record Spot : Type 0 where
  pub path : List ℕ
  pub place : Position

-- the node of this mark at a spot
abbrev pub node_at : Spot → Mark → Node
node_at spot mark = record { path = spot.path; place = spot.place; mark = mark }

-- the spot that a row leads to
abbrev pub spot_below : List ℕ → Position → ℕ → Spot
spot_below path s row = record { path = path ++ row ∷ []; place = child s row }

-- the spots that rows lead to, in their order
abbrev pub spots_below : List ℕ → Position → List ℕ → List Spot
spots_below path s [] = []
spots_below path s (row ∷ rows) = spot_below path s row ∷ spots_below path s rows

-- the mark of a symbol
abbrev pub mark_of : Symbol → Mark
mark_of symbol.CutB = B
mark_of symbol.CutL = L
mark_of (symbol.CutR bound text) = R bound text
mark_of (symbol.Branch n) = X
mark_of symbol.Given = G

-- how it is spelled
abbrev pub symbol_text : Symbol → List ℕ
symbol_text one = spelled (mark_of one)

-- what is owed behind a node of this mark that came where a tree was owed at this spot, and then others: B, L, R and G are whole trees, X owes one for
-- each legal row
abbrev pub owed_behind : Mark → Spot → List Spot → List Spot
owed_behind B spot owed = owed
owed_behind L spot owed = owed
owed_behind (R bound text) spot owed = owed
owed_behind X spot owed = spots_below spot.path spot.place (targets spot.place) ++ owed
owed_behind G spot owed = owed

-- one tree for each spot, in their order, which fits there
abbrev pub Pay : List Spot → List Tree → Type 0
Pay [] [] = ⊤
Pay [] (tree ∷ trees) = ⊥
Pay (spot ∷ owed) [] = ⊥
Pay (spot ∷ owed) (tree ∷ trees) = Fits spot.place tree × Pay owed trees

-- the nodes of such trees
abbrev pub nodes_of_all : List Spot → List Tree → List Node
nodes_of_all [] trees = []
nodes_of_all (spot ∷ owed) [] = []
nodes_of_all (spot ∷ owed) (tree ∷ trees) = nodes spot.path spot.place tree ++ nodes_of_all owed trees

-- a symbol fits at its spot: a branch counts the legal rows there, and a text of reasons can be one
abbrev pub FitsAt : Symbol → Spot → Type 0
FitsAt symbol.CutB spot = ⊤
FitsAt symbol.CutL spot = ⊤
FitsAt (symbol.CutR bound text) spot = AreReasons bound text
FitsAt (symbol.Branch n) spot = n ≡ length (targets spot.place)
FitsAt symbol.Given spot = ⊤

-- symbols pay some of the trees that are owed, and leave these
abbrev pub Leaves : List Spot → List Symbol → List Spot → Type 0
Leaves owed [] left = owed ≡ left
Leaves [] (one ∷ list) left = ⊥
Leaves (spot ∷ owed) (one ∷ list) left = FitsAt one spot × Leaves (owed_behind (mark_of one) spot owed) list left

-- the nodes that symbols stand for, where trees are owed at these spots
abbrev pub nodes_by : List Spot → List Symbol → List Node
nodes_by owed [] = []
nodes_by [] (one ∷ list) = []
nodes_by (spot ∷ owed) (one ∷ list) = node_at spot (mark_of one) ∷ nodes_by (owed_behind (mark_of one) spot owed) list
