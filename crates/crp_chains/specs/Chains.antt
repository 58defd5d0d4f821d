-- Chains of containers that block: of which some have to block again, wherever they go.
use Rattle.std.specs.Prelude.{◌≡◌, ◌<◌, ◌≤◌, ◌⊎◌, ℕ, ◌-◌, Bool, not, ◌&&◌, ◌==◌, nat_lt, if◌then◌else◌, IsTrue, List, [], ◌∷◌, ◌++◌, length, map, Some, slice_get, sum_by, count_by, ⊤}
use Rattle.std.specs.List.{list_any, zip, AllByRecursion}
use Rattle.crp_plan.specs.Rows.{holds, occurrences}
use Rattle.crp_plan.specs.Bay.{Position}
use Rattle.crp_bounds.specs.Bounds.{holds_lower}
use Rattle.crp_chains.specs.declared.blocker.Blocker.{Blocker}

-- the rank stands in some row, on this list
pub record StandsOn (stacks : List (List ℕ)) (beneath : List ℕ) (rank : ℕ) : Type 0 where
  pub row : ℕ
  pub over : List ℕ
  pub stands : slice_get stacks row ≡ Some (beneath ++ rank ∷ over)

-- the container blocks: an ordered one of a lower rank stands beneath it, and its turn is the least of these
pub record IsBlocker (s : Position) (b : Blocker) : Type 0 where
  pub beneath : List ℕ
  pub stands : StandsOn s.stacks beneath b.rank
  pub turn_stands : IsTrue (holds b.turn beneath)
  pub is_ordered : b.turn ≤ s.ordered
  pub is_lower : b.turn < b.rank
  pub least : (x : ℕ) → x ≤ s.ordered → IsTrue (holds x beneath) → b.turn ≤ x

-- the one container stands above the other, in one row
pub record StandsAbove (s : Position) (upper lower : ℕ) : Type 0 where
  pub beneath : List ℕ
  pub stands : StandsOn s.stacks beneath upper
  pub held : IsTrue (holds lower beneath)

-- a comes up before b: its turn is the earlier one, or their turns are the same and it stands above b
abbrev pub ComesBefore : Position → Blocker → Blocker → Type 0
ComesBefore s a b = (a.turn < b.turn) ⊎ ((a.turn ≡ b.turn) × StandsAbove s a.rank b.rank)

-- b may follow a in a chain: a is to leave, its rank is the lower one, and it comes up before b
pub record MayFollow (s : Position) (a b : Blocker) : Type 0 where
  pub leaves : a.rank ≤ s.ordered
  pub rising : a.rank < b.rank
  pub before : ComesBefore s a b

-- each may follow the one before it
abbrev pub AreLinked : Position → List Blocker → Type 0
AreLinked s [] = ⊤
AreLinked s (a ∷ []) = ⊤
AreLinked s (a ∷ b ∷ chain) = MayFollow s a b × AreLinked s (b ∷ chain)

-- all come up before the first of them leaves
abbrev pub AreInTime : List Blocker → Type 0
AreInTime [] = ⊤
AreInTime (a ∷ chain) = AllByRecursion (λ b. b.turn < a.rank) chain

-- a chain: containers that block, in the order in which they come up and with rising ranks, and all before the first of them leaves
pub record IsChain (s : Position) (chain : List Blocker) : Type 0 where
  pub blockers : AllByRecursion (IsBlocker s) chain
  pub linked : AreLinked s chain
  pub in_time : AreInTime chain

abbrev pub ranks_of : List Blocker → List ℕ
ranks_of chain = map (λ b. b.rank) chain

-- a family: chains without a common container
pub record IsFamily (s : Position) (family : List (List Blocker)) : Type 0 where
  pub chains : AllByRecursion (IsChain s) family
  pub apart : (x : ℕ) → occurrences x (map ranks_of family) ≤ 1

-- what still stands of a stack when the turn of rank k comes: what is beneath its lowest container of a rank below k
abbrev pub standing_at : ℕ → List ℕ → List ℕ
standing_at k [] = []
standing_at k (x ∷ stack) = if nat_lt x k then [] else x ∷ standing_at k stack

-- the row is open to b: at b's turn it has room, and holds no ordered container of a lower rank than b. The row that b stands in
-- is never open to it: it holds the container whose turn that is
abbrev pub is_open : ℕ → ℕ → List ℕ → Blocker → Bool
is_open ordered height stack b =
    nat_lt (length (standing_at b.turn stack)) height && not (holds_lower ordered b.rank (standing_at b.turn stack))

-- how many rows are open to any of the chain
abbrev pub open_rows : Position → List Blocker → ℕ
open_rows s chain = count_by (λ row. list_any (is_open s.ordered row.0 row.1) chain) (zip s.heights s.stacks)

-- how many of the chain have to block again, at least: all but one for each row that is open to any
abbrev pub chain_gain : Position → List Blocker → ℕ
chain_gain s chain = length chain - open_rows s chain

abbrev pub gain : Position → List (List Blocker) → ℕ
gain s family = sum_by (chain_gain s) family

-- a chain without the container of this rank, where that is its first
abbrev pub without : ℕ → List Blocker → List Blocker
without x [] = []
without x (b ∷ chain) = if b.rank == x then chain else b ∷ chain
