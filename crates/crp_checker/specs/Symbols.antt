-- Reading the symbols of a part one by one, and what is known after some of them. No tree is kept.
use Rattle.std.specs.Prelude.{◌≡◌, ℕ, suc, ◌+◌, Bool, true, ◌==◌, nat_lt, List, [], ◌∷◌, ◌++◌, length, Option, Some, None, if◌then◌else◌}
use Rattle.std.specs.List.{AllByRecursion, flat_map}
use Rattle.std.specs.Option.{option_or}
use Rattle.crp_bounds.specs.Bounds.{blocking, look_ahead}
use Rattle.crp_tree.specs.Tree.{Tree}
use Rattle.crp_tree.specs.Mark.{Mark}
use Rattle.crp_tree.specs.Mark.{B, L, R, X, G}
use Rattle.crp_tree.specs.Trees.{Node, nodes, spelled, given_names, Fits, IsGivenAway}
use Rattle.crp_cert.specs.Script.{symbols_of}
use Rattle.crp_checker.specs.declared.letter.Letter.{Letter}
use Rattle.crp_checker.specs.declared.letter.Letter.TheVariants as letter
use Rattle.crp_checker.specs.declared.wrong.Wrong.{Wrong}
use Rattle.crp_checker.specs.declared.wrong.Wrong.TheVariants.{Low, AtEnd, Unshown}
use Rattle.crp_checker.specs.Gathered.{Gathered, gathered, joined}
use Rattle.crp_checker.specs.Nodes.{IsLow, IsAtEnd, IsUnshown, IsRight, IsFirstWrong}
use Rattle.crp_tree.specs.Spots.{Spot, node_at, owed_behind, Pay, nodes_of_all}

-- what is kept after some symbols of a part: where trees are owed, the next one first; how many symbols came; the first node that is wrong, if
-- one is; and the names that are given
pub record Walked : Type 0 where
  pub owed : List Spot
  pub count : ℕ
  pub wrong : Option Wrong
  pub given : Gathered

-- the mark of a letter
abbrev pub mark_of : Letter → Mark
mark_of letter.B = B
mark_of letter.L = L
mark_of letter.X = X
mark_of letter.G = G

-- what is wrong with the node that symbol number k stands for, if anything is; of reasons, what is wrong with the number that they are to show
abbrev pub wrong_at : (List ℕ → ℕ) → ℕ → Mark → Spot → Option Wrong
wrong_at need k B spot = if nat_lt (length spot.path + blocking spot.place) (need spot.path) then Some (Low k) else None
wrong_at need k L spot = if nat_lt (length spot.path + look_ahead spot.place) (need spot.path) then Some (Low k) else None
wrong_at need k (R bound text) spot = if nat_lt (length spot.path + bound) (need spot.path) then Some (Low k) else None
wrong_at need k X spot = if spot.place.next == suc spot.place.ordered then Some (AtEnd k) else None
wrong_at need k G spot = None

-- a symbol comes where a tree is owed at this spot, and then others
abbrev pub walked_on : (List ℕ → ℕ) → Mark → Spot → List Spot → Walked → Walked
walked_on need mark spot owed walked = record {
  owed = owed_behind mark spot owed;
  count = walked.count + 1;
  wrong = option_or walked.wrong (wrong_at need (walked.count + 1) mark spot);
  given = joined walked.given (gathered (given_names (node_at spot mark ∷ [])));
}

-- what is wrong with the text of reasons, by whether it shows what it is to show
abbrev pub unshown_at : ℕ → Bool → Option Wrong
unshown_at k shown = if shown then None else Some (Unshown k)

-- reasons with this number come where a tree is owed at this spot, and then others
abbrev pub walked_by : (List ℕ → ℕ) → ℕ → Bool → Spot → List Spot → Walked → Walked
walked_by need bound shown spot owed walked = record {
  owed = owed;
  count = walked.count + 1;
  wrong = option_or (option_or walked.wrong (wrong_at need (walked.count + 1) (R bound []) spot)) (unshown_at (walked.count + 1) shown);
  given = walked.given;
}

-- the walk over a part begins: one tree is owed
abbrev pub begun : Spot → Walked
begun top = record { owed = top ∷ []; count = 0; wrong = None; given = gathered [] }

-- letters of a part as far as they came: the walk over them; whether symbols followed behind the tree; and whether a byte came that is none
pub record Line : Type 0 where
  pub walked : Walked
  pub trailing : Bool
  pub unknown : Bool

-- the symbol of one letter that a byte is behind so many others: a part does not begin with G
abbrev pub symbol_at : ℕ → ℕ → Option Mark
symbol_at count b =
    if b == 66 then Some B else (if b == 76 then Some L else (if b == 88 then Some X else (if b == 71 then (if count == 0 then None else Some G) else None)))

-- a symbol comes, where these trees are owed
abbrev pub paid : (List ℕ → ℕ) → Mark → List Spot → Line → Line
paid need mark [] line = record line { trailing = true }
paid need mark (spot ∷ owed) line = record line { walked = walked_on need mark spot owed line.walked }

-- a symbol comes, or a byte that is none
abbrev pub gone_on : (List ℕ → ℕ) → Option Mark → Line → Line
gone_on need None line = record line { unknown = true }
gone_on need (Some mark) line = paid need mark line.walked.owed line

-- a byte comes: behind one that may not stand there no other is looked at
abbrev pub after : (List ℕ → ℕ) → Line → ℕ → Line
after need line b = if line.unknown then line else gone_on need (symbol_at line.walked.count b) line

-- the first wrong node of the list is this one, if one is
abbrev pub IsFirstOf : (List ℕ → ℕ) → List Node → Option Wrong → Type 0
IsFirstOf need list None = AllByRecursion (IsRight need) list
IsFirstOf need list (Some (Low k)) = IsFirstWrong need (IsLow need) list k
IsFirstOf need list (Some (AtEnd k)) = IsFirstWrong need IsAtEnd list k
IsFirstOf need list (Some (Unshown k)) = IsFirstWrong need (IsUnshown need) list k

-- a tree at the top spot begins with these symbols and nodes, and goes on with the trees that pay what is owed
pub record IsCompleted (top : Spot) (symbols : List ℕ) (list : List Node) (owed : List Spot) (trees : List Tree) : Type 0 where
  pub tree : Tree
  pub fits : Fits top.place tree
  pub symbols_are : symbols_of tree ≡ symbols ++ flat_map symbols_of trees
  pub nodes_are : nodes top.path top.place tree ≡ list ++ nodes_of_all owed trees

-- the symbols are a front of those of a tree at the top spot: whatever pays what is owed completes such a tree, and whatever tree begins so is completed by what pays
pub record IsOnItsWay (need : List ℕ → ℕ) (top : Spot) (symbols : List ℕ) (walked : Walked) : Type 0 where
  pub list : List Node
  pub spell : flat_map (λ node. spelled node.mark) list ≡ symbols
  pub counted : walked.count ≡ length list
  pub wrong : IsFirstOf need list walked.wrong
  pub given_are : walked.given ≡ gathered (given_names list)
  pub completes : (trees : List Tree) → Pay walked.owed trees → IsCompleted top symbols list walked.owed trees
  pub only : (tree : Tree) (rest more : List ℕ) → Fits top.place tree → symbols ++ more ≡ symbols_of tree ++ rest →
      (trees : List Tree) × Pay walked.owed trees × (more ≡ flat_map symbols_of trees ++ rest)

-- the symbols are those of a whole tree, which is not given away: this is its first wrong node, if it has one, and these names it gives
pub record IsOneWholeTree (need : List ℕ → ℕ) (top : Spot) (symbols : List ℕ) (wrong : Option Wrong) (given : Gathered) : Type 0 where
  pub tree : Tree
  pub fits : Fits top.place tree
  pub not_given : IsGivenAway tree → ⊥
  pub symbols_are : symbols ≡ symbols_of tree
  pub wrong_is : IsFirstOf need (nodes top.path top.place tree) wrong
  pub given_are : given ≡ gathered (given_names (nodes top.path top.place tree))
