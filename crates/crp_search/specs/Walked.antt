-- What a walk over a part meets at a node.
use Rattle.std.specs.Prelude.{◌≡◌, ℕ, ◌+◌, ◌<◌, ◌≤◌, List, [], ◌∷◌, length, Option, Some, None, Result, IfOk, IfErr, IfSome}
use Rattle.crp_plan.specs.Bay.{Position}
use Rattle.crp_row.specs.Symbol.{Symbol}
use Rattle.crp_row.specs.Rows.{symbol_of}
use Rattle.crp_tree.specs.Symbols.{IsLeaf, leaf}
use Rattle.crp_tree.specs.Mark.{X}
use Rattle.crp_tree.specs.Trees.{Node, nodes, least_value, Fits, IsGivenAway}
use Rattle.crp_search.specs.declared.frames.Closed.{Closed}
use Rattle.crp_search.specs.declared.walk_end.WalkEnd.{WalkEnd}
use Rattle.crp_search.specs.Limits.{Dealings}

-- the symbol that closes a node, with this text if it has one
abbrev pub closing : List ℕ → Closed → Symbol
closing text closed = symbol_of closed.kind text

-- what is met at a path: where the node is closed its one node, else a branch
abbrev pub met_at : List ℕ → Position → List ℕ → Option Closed → List Node
met_at path s text None = record { path = path; place = s; mark = X } ∷ []
met_at path s text (Some closed) = nodes path s (leaf (closing text closed))

-- the node is closed by a symbol that is a whole tree and fits there, which is given away only where its path has fewer than so many rows; and the floor is
-- the value of its cut where that is below the one before
pub record IsLeafAt (under before : ℕ) (path : List ℕ) (s : Position) (text : List ℕ) (closed : Closed) : Type 0 where
  pub leaf_is : IsLeaf (closing text closed)
  pub fits : Fits s (leaf (closing text closed))
  pub given : IsGivenAway (leaf (closing text closed)) → length path < under
  pub floor_is : closed.floor ≡ least_value before (nodes path s (leaf (closing text closed)))

-- a node is closed, or an expansion is granted for it, or the walk ends there, while names of fewer than so many rows may be given away: what holds of what is met, how the node is
-- closed, with the text of the reasons that were given last, and what holds at the end
pub record Closes {A : Type 0} (Meets : ℕ → A → Dealings → A → Dealings → List Node → Type 0) (Ends : ℕ → A → Dealings → A → Dealings → List Node → WalkEnd → Type 0)
    (a : A) (d : Dealings) (b : A) (e : Dealings) (under floor : ℕ) (path : List ℕ) (s : Position) (text : List ℕ) (result : Result (Option Closed) WalkEnd) : Type 0 where
  pub met : IfOk result (λ found. (rows : ℕ) → under ≤ rows + 1 → Meets rows a d b e (met_at path s text found))
  pub closed : IfOk result (λ found. IfSome found (IsLeafAt under floor path s text))
  pub ended : IfErr result (λ end. (rows : ℕ) → under ≤ rows + 1 → Ends rows a d b e [] end)
