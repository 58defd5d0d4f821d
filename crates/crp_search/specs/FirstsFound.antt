-- What a search for the first plan of k relocations holds of the nodes that it met.
use Rattle.std.specs.Prelude.{◌≡◌, ℕ, ◌+◌, List, ◌∷◌, ◌++◌, length, All, Option, Some, None}
use Rattle.crp_plan.specs.Bay.{Problem, Position, IsAt}
use Rattle.crp_plan.specs.Faults.{IsPlanPath}
use Rattle.crp_plan.specs.Plans.{ProblemPath}
use Rattle.crp_tree.specs.Mark.{B}
use Rattle.crp_tree.specs.Trees.{Node}
use Rattle.crp_search.specs.declared.reasons.Thinning.{Thinning}
use Rattle.crp_search.specs.Limits.{Dealings}
use Rattle.crp_search.specs.Searched.{IsHeld, IsMet, AreFirstNodes}
use Rattle.crp_search.specs.Firsts.{OnlyClaims}

-- what suffices: one more than k until a plan of k relocations is met, and k from then on
abbrev pub need : ℕ → Option ProblemPath → ℕ
need k None = k + 1
need k (Some plan) = k

-- a plan of k relocations is met at one of the nodes, which stand in the order in which they were met: before it one more than k suffices, and k from there on
pub record IsMetAmong (p : Problem) (k : ℕ) (plan : ProblemPath) (met : List Node) : Type 0 where
  pub before : List Node
  pub cut : Node
  pub after : List Node
  pub is : met ≡ before ++ cut ∷ after
  pub here : cut.path ≡ plan.path
  pub mark : cut.mark ≡ B
  pub of_problem : plan.problem ≡ p
  pub whole : IsPlanPath p plan.path
  pub count : length plan.path ≡ k
  pub above : All (IsHeld 0 (k + 1)) before
  pub enough : All (IsHeld 0 k) (cut ∷ after)

-- nodes in the order in which they were met, by a search that has met the first plan before them, if any, and the second by their end
abbrev pub AreHeld : Problem → ℕ → Option ProblemPath → Option ProblemPath → List Node → Type 0
AreHeld p k None None met = All (IsHeld 0 (k + 1)) met
AreHeld p k None (Some plan) met = IsMetAmong p k plan met
AreHeld p k (Some old) plan met = (plan ≡ Some old) × All (IsHeld 0 k) met

-- a search for plans of so many relocations by such reasons stays so
pub record SameSearch (k : ℕ) (by : Thinning) (later : ℕ) (others : Thinning) : Type 0 where
  pub count : later ≡ k
  pub reasons : others ≡ by

-- what such a search holds of the nodes that it met, with the first plan before them, if any, and the second by their end
pub record IsFirstSoFar (p : Problem) (k split most : ℕ) (before after : Option ProblemPath) (old new : Dealings) (met : List Node) : Type 0 where
  pub dealings : IsMet split most old new met
  pub claims : OnlyClaims old.view new.view
  pub held : AreHeld p k before after met

-- how far it came in a part where it ended before its time: it met the first nodes of a tree, and nothing was claimed or put but for these
pub record CameSoFar (p : Problem) (k split most : ℕ) (name : List ℕ) (old new : Dealings) : Type 0 where
  pub place : Position
  pub at : IsAt p name place
  pub met : List Node
  pub first : AreFirstNodes name place met
  pub plan : Option ProblemPath
  pub so_far : IsFirstSoFar p k split most None plan old new met
