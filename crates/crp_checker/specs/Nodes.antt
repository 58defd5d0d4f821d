-- The values that cuts need, and which nodes of a part are wrong.
use Rattle.std.specs.Prelude.{◌≡◌, ℕ, ◌+◌, ◌<◌, IsTrue, List, ◌∷◌, ◌++◌, length, Option, Some, None, ⊤}
use Rattle.std.specs.List.{AllByRecursion}
use Rattle.crp_plan.specs.Bay.{Position, IsFinished}
use Rattle.crp_thinning.specs.Symbols.{Closes}
use Rattle.crp_tree.specs.Mark.{Mark, B, L, R, X, G}
use Rattle.crp_tree.specs.Trees.{Node, is_cut, value}
use Rattle.crp_tree.specs.First.{need_at}
use Rattle.crp_cert.specs.declared.claim.Claim.{Claim}
use Rattle.crp_cert.specs.declared.claim.Claim.TheVariants.{AtLeast, First}

-- the value that a cut at the path needs, under a claim beside which this plan stands, if one does: the bound, and one more where the first best
-- plan is claimed and the path comes before the plan's
abbrev pub need_of : Claim → Option (List ℕ) → List ℕ → ℕ
need_of (AtLeast least) plan path = least
need_of (First least) None path = least
need_of (First least) (Some plan) path = need_at least plan path

-- the node is a cut whose value is below what it needs
abbrev pub IsLow : (List ℕ → ℕ) → Node → Type 0
IsLow need node = IsTrue (is_cut node.mark) × (value node < need node.path)

-- the node is a branch at a finished position
abbrev pub IsAtEnd : Node → Type 0
IsAtEnd node = (node.mark ≡ X) × IsFinished node.place

-- reasons at a position show what they are to show; of other marks nothing is said
abbrev pub Show : Mark → Position → Type 0
Show B s = ⊤
Show L s = ⊤
Show (R bound text) s = Closes s bound text
Show X s = ⊤
Show G s = ⊤

-- the node is a cut by reasons that do not, and its value is not below what it needs
abbrev pub IsUnshown : (List ℕ → ℕ) → Node → Type 0
IsUnshown need node = (IsLow need node → ⊥) × (Show node.mark node.place → ⊥)

-- the node is none of these
pub record IsRight (need : List ℕ → ℕ) (node : Node) : Type 0 where
  pub not_low : IsLow need node → ⊥
  pub not_at_end : IsAtEnd node → ⊥
  pub shown : Show node.mark node.place

-- node number k, from 1, is wrong in this way, and those before it are right
pub record IsFirstWrong (need : List ℕ → ℕ) (Wrong : Node → Type 0) (list : List Node) (k : ℕ) : Type 0 where
  pub before : List Node
  pub node : Node
  pub after : List Node
  pub list_is : list ≡ before ++ node ∷ after
  pub number : k ≡ length before + 1
  pub right : AllByRecursion (IsRight need) before
  pub wrong : Wrong node
