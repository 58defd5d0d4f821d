-- A certificate settled on a plan: what comes after the plan is closed as soon as a bound reaches the plan's relocations.
use Rattle.std.specs.Prelude.{◌≡◌, ℕ, ◌+◌, ◌<◌, ◌≤◌, ◌⊎◌, ◌↔◌, List, ◌++◌, length, Contains, All}
use Rattle.std.specs.List.{sum_by}
use Rattle.crp_plan.specs.Bay.{Problem, Position, IsAt, cap}
use Rattle.crp_bounds.specs.Bounds.{blocking, look_ahead}
use Rattle.crp_row.specs.Symbol.{Symbol}
use Rattle.crp_tree.specs.Tree.{Tree}
use Rattle.crp_tree.specs.Symbols.{symbols}
use Rattle.crp_tree.specs.Names.{Precedes}
use Rattle.crp_tree.specs.Mark.{B, L}
use Rattle.crp_tree.specs.Trees.{Node, nodes, branches, Fits, IsInPlace, IsGivenAway, least_value}
use Rattle.crp_tree.specs.Parts.{ProblemPart, nodes_of, branches_in, Certificate}

-- a path is past the plan: it comes after the plan's, and the look-ahead bound of the position there reaches the plan's relocations
pub record IsPast (plan path : List ℕ) (s : Position) : Type 0 where
  pub after : Precedes plan path
  pub reached : length plan ≤ length path + look_ahead s

-- the node is closed by the plan: it is a cut by the blocking bound where that reaches the plan's relocations, and else one by the look-ahead bound
abbrev pub IsClosedBy : List ℕ → Node → Type 0
IsClosedBy plan node = ((node.mark ≡ B) × (length plan ≤ length node.path + blocking node.place)) ⊎ ((node.mark ≡ L) × (length node.path + blocking node.place < length plan))

-- nodes are settled: those past the plan are closed by it, all others are as they were, and there are no more branches
pub record AreSettled (plan : List ℕ) (old new : List Node) : Type 0 where
  pub past : (node : Node) → Contains new node → IsPast plan node.path node.place → IsClosedBy plan node
  pub others : (node : Node) → (IsPast plan node.path node.place → ⊥) → Contains new node ↔ Contains old node
  pub fewer : length (branches new) ≤ length (branches old)

-- the name of the part is past the plan
abbrev pub IsPastPart : List ℕ → ProblemPart → Type 0
IsPastPart plan part = (s : Position) × IsAt part.problem part.name s × IsPast plan part.name s

-- the part is settled: its name is not past the plan, and its nodes are settled
pub record IsSettledPart (plan : List ℕ) (old new : ProblemPart) : Type 0 where
  pub problem_is : new.problem ≡ old.problem
  pub name_is : new.name ≡ old.name
  pub not_past : IsPastPart plan old → ⊥
  pub nodes_are : AreSettled plan (nodes_of old) (nodes_of new)

-- how many branches the parts have
abbrev pub branches_in_all : List ProblemPart → ℕ
branches_in_all parts = sum_by (λ part. length (branches_in part)) parts

-- the certificate is settled: each of its parts is an old one settled, each old part whose name is not past the plan is still there, and there are
-- no more branches
pub record IsSettled (plan : List ℕ) (old new : Certificate) : Type 0 where
  pub each : (part : ProblemPart) → Contains new.parts part → (before : ProblemPart) × Contains old.parts before × IsSettledPart plan before part
  pub stays : (before : ProblemPart) → Contains old.parts before → (IsPastPart plan before → ⊥) → (part : ProblemPart) × Contains new.parts part × IsSettledPart plan before part
  pub fewer : branches_in_all new.parts ≤ branches_in_all old.parts

-- what old nodes at a path that leads to s become there: a tree that fits, with the least value of its cuts, whose nodes are the old ones settled
pub record IsSettledTo (p : Problem) (plan path : List ℕ) (s : Position) (old : List Node) (tree : Tree) (floor : ℕ) : Type 0 where
  pub fits : Fits s tree
  pub in_place : All IsInPlace (nodes path s tree)
  pub floor_is : floor ≡ least_value (cap p) (nodes path s tree)
  pub settled : AreSettled plan old (nodes path s tree)

-- behind symbols those of a tree are written that an old one becomes at a path that leads to s; it is not given away, where that is not
pub record IsWritten (p : Problem) (plan path : List ℕ) (s : Position) (old : Tree) (before after : List Symbol) (floor : ℕ) : Type 0 where
  pub tree : Tree
  pub written : after ≡ before ++ symbols tree
  pub is : IsSettledTo p plan path s (nodes path s old) tree floor
  pub own : IsGivenAway tree → IsGivenAway old
