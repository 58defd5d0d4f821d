-- What a walk makes of a piece of the symbols of a part.
use Rattle.std.specs.Prelude.{◌≡◌, ◌⊎◌, ℕ, ◌≤◌, ◌<◌, Bool, false, List, [], length, take, slice_index, fold, None}
use Rattle.crp_checker.specs.declared.found.Found.{Found}
use Rattle.crp_tree.specs.Spots.{Spot}
use Rattle.crp_checker.specs.Symbols.{Walked, Line, symbol_at, after}

-- what is known where trees are owed at these spots, so many symbols came, and this was met among them
abbrev pub walked_at : List Spot → ℕ → Found → Walked
walked_at owed count found = record { owed = owed; count = count; wrong = found.wrong; given = found.given }

-- the same of a line in which no byte was wrong
abbrev pub line_at : Walked → Bool → Line
line_at walked trailing = record { walked = walked; trailing = trailing; unknown = false }

-- the bytes lead from what was known to what is known then
abbrev pub LeadTo : (List ℕ → ℕ) → Walked → List ℕ → Walked → Type 0
LeadTo need old bytes new = (trailing : Bool) → fold (after need) (line_at old trailing) bytes ≡ line_at new trailing

-- no tree that is owed at these spots can take the byte as its symbol behind so many others: none is owed, or it is no letter that may stand there
abbrev pub IsStopped : List Spot → ℕ → ℕ → Type 0
IsStopped owed count byte = (owed ≡ []) ⊎ (symbol_at count byte ≡ None)

-- so many bytes of a piece were read, which are symbols of trees that were owed; the piece ends there, or no tree is owed, or a byte stands there that may not
pub record IsWalk (need : List ℕ → ℕ) (before : List Spot) (old : Found) (piece : List ℕ) (owed : List Spot) (new : Found) (taken : ℕ) : Type 0 where
  pub within : taken ≤ length piece
  pub walked : LeadTo need (walked_at before old.count old) (take taken piece) (walked_at owed new.count new)
  pub stopped : taken < length piece → IsStopped owed new.count (slice_index piece taken)
