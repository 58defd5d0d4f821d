-- The text of a whole certificate: its head, its parts, and its last line. Each line ends with LF.
use Rattle.std.specs.Prelude.{◌≡◌, ℕ, ◌≤◌, Bool, true, false, ◌||◌, List, [], ◌∷◌, ◌++◌, length, All, AllPairs, codes, ⊤}
use Rattle.std.specs.List.{flat_map}
use Rattle.crp_plan.specs.Bay.{Problem, Position, IsAt}
use Rattle.crp_tree.specs.Tree.{Tree, CutB, CutL, CutR, Branch, Given, Trees, no_trees, one_and}
use Rattle.crp_tree.specs.Names.{Precedes, name_text}
use Rattle.crp_tree.specs.Trees.{Fits, IsGivenAway}
use Rattle.crp_tree.specs.Claims.{Part, Claimed, names}
use Rattle.crp_row.specs.Reasons.{reasons_text}
use Rattle.crp_cert.specs.declared.script.Script.{Script}
use Rattle.crp_cert.specs.declared.version.Version.{Version}
use Rattle.crp_cert.specs.declared.version.Version.TheVariants.{One, Two, Three}
use Rattle.crp_cert.specs.Text.{numbers_line, bound, head_text, IsHead}

-- the symbols of a tree, a branch before its trees: B is a cut by the blocking bound, L a cut by the look-ahead bound, brackets are a cut by the reasons in
-- them, X is a branch, G a subtree that is given to a part of its own
abbrev mutual
  pub symbols_of : Tree → List ℕ
  symbols_of CutB = codes "B"
  symbols_of CutL = codes "L"
  symbols_of (CutR bound text) = reasons_text bound text
  symbols_of (Branch all) = codes "X" ++ symbols_of_each all
  symbols_of Given = codes "G"

  -- the symbols of the trees of a branch, one tree after the other
  pub symbols_of_each : Trees → List ℕ
  symbols_of_each no_trees = []
  symbols_of_each (one_and tree trees) = symbols_of tree ++ symbols_of_each trees

-- what stands before the symbols of a part of this name
abbrev pub opening_of : List ℕ → List ℕ
opening_of name = codes "part " ++ (name_text name ++ codes ": ")

-- a part line with this name and these symbols
abbrev pub symbols_line : List ℕ → List ℕ → List ℕ
symbols_line name symbols = codes "part " ++ (name_text name ++ (codes ": " ++ (symbols ++ 10 ∷ [])))

-- the line of a part
abbrev pub part_line : Part → List ℕ
part_line part = symbols_line part.name (symbols_of part.tree)

-- the last line: how many parts there are
abbrev pub end_line : ℕ → List ℕ
end_line count = numbers_line (codes "end") (count ∷ [])

-- the lines of a certificate, in order
abbrev pub script_text : Script → List ℕ
script_text script = head_text script.head ++ (flat_map part_line script.parts ++ end_line (length script.parts))

-- some cut of the tree has its reasons
abbrev mutual
  pub has_reasons : Tree → Bool
  has_reasons CutB = false
  has_reasons CutL = false
  has_reasons (CutR bound text) = true
  has_reasons (Branch all) = some_has_reasons all
  has_reasons Given = false

  -- of some trees
  pub some_has_reasons : Trees → Bool
  some_has_reasons no_trees = false
  some_has_reasons (one_and tree trees) = has_reasons tree || some_has_reasons trees

-- a text of this version can spell the tree: version 3 alone spells reasons
abbrev pub CanSpell : Version → Tree → Type 0
CanSpell One tree = has_reasons tree ≡ false
CanSpell Two tree = has_reasons tree ≡ false
CanSpell Three tree = ⊤

-- what a part line of a version may say: the name has at most 8 rows and is a path of the problem, and the tree fits there, is not given to another
-- part as a whole, and can be spelled
pub record IsPartLine (version : Version) (p : Problem) (part : Part) : Type 0 where
  pub short : length part.name ≤ 8
  pub place : Position
  pub is_at : IsAt p part.name place
  pub fits : Fits place part.tree
  pub not_given : IsGivenAway part.tree → ⊥
  pub can_spell : CanSpell version part.tree

-- what a whole certificate may say: a head, and parts of its problem in rising order of their names
pub record IsScript (script : Script) : Type 0 where
  pub is_head : IsHead script.head
  pub each_part : All (IsPartLine script.head.version script.head.problem) script.parts
  pub rising : AllPairs Precedes (names script.parts)

-- the bytes are the script's text, all of them
abbrev pub IsScriptOf : List ℕ → Script → Type 0
IsScriptOf bytes script = IsScript script × (bytes ≡ script_text script)

-- the claim of a script: the problem, the claimed bound, the plan, and the parts
abbrev pub claim_of : Script → Claimed
claim_of script = record { problem = script.head.problem; lower = bound script.head.claim; plan = script.head.plan; parts = script.parts }
