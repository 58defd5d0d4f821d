-- One chain of a family that is read symbol by symbol.
use Rattle.std.specs.Prelude.{◌≡◌, ◌⊎◌, ℕ, zero, suc, ◌+◌, ◌-◌, ◌<◌, ◌≤◌, List, [], ◌∷◌, ◌++◌, length, slice_index, ⊤}
use Rattle.std.specs.List.{AllByRecursion}
use Rattle.crp_plan.specs.Rows.{occurrences}
use Rattle.crp_plan.specs.Bay.{Position}
use Rattle.crp_chains.specs.Chains.{IsChain, gain}
use Rattle.crp_chains.specs.Named.{family_of}
use Rattle.crp_thinning.specs.declared.reading.Reading.{Reading}
use Rattle.crp_thinning.specs.declared.reading.Reads.{Reads}
use Rattle.crp_thinning.specs.declared.reading.Reads.TheVariants.{On, Ended, Wrong}
use Rattle.crp_thinning.specs.Owed.{Task, Owes, EndsFamily}

-- a rank of a bay
abbrev pub IsRank : ℕ → Type 0
IsRank x = (1 ≤ x) × (x ≤ 96)

-- ranks of a bay are read, and none in two chains
pub record IsFair (r : Reading) : Type 0 where
  pub whole : AllByRecursion IsRank r.ranks.items
  pub few : length r.ranks.items < 96
  pub begun : r.number ≤ 96
  pub once : (x : ℕ) → slice_index r.seen x ≤ 1

-- a number that has begun, as the last rank of a chain
abbrev pub last_rank : ℕ → List ℕ
last_rank zero = []
last_rank (suc n) = suc n ∷ []

-- the chain, if it ends here
abbrev pub chain_of : Reading → List ℕ
chain_of r = r.ranks.items ++ last_rank r.number

-- a chain of these ranks is counted: they are a chain, none of them was in one before, and what it gains is no longer wanted
pub record Counted (s : Position) (chain : List ℕ) (old new : Reading) : Type 0 where
  pub is_chain : AllByRecursion (IsChain s) (family_of s (chain ∷ []))
  pub seen : (x : ℕ) → slice_index new.seen x ≡ slice_index old.seen x + occurrences x (chain ∷ [])
  pub once : (x : ℕ) → slice_index new.seen x ≤ 1
  pub wanted : new.wanted ≡ old.wanted - gain s (family_of s (chain ∷ []))
  pub no_ranks : new.ranks.items ≡ []
  pub no_number : new.number ≡ 0

-- they are no chain, or one of them was in a chain before, or comes twice
abbrev pub CannotCount : Position → List ℕ → Reading → Type 0
CannotCount s chain old = ((x : ℕ) × (2 ≤ slice_index old.seen x + occurrences x (chain ∷ []))) ⊎ (AllByRecursion (IsChain s) (family_of s (chain ∷ [])) → ⊥)

-- the chain has ended, behind a rank or with none, and is counted
pub record ChainDone (s : Position) (old new : Reading) : Type 0 where
  pub may_end : old.number ≡ 0 → old.ranks.items ≡ []
  pub counted : Counted s (chain_of old) old new

-- it can't end here
abbrev pub CannotEnd : Position → Reading → Type 0
CannotEnd s old = ((old.number ≡ 0) × (old.ranks.items ≡ [] → ⊥)) ⊎ CannotCount s (chain_of old) old

-- what is to come behind a symbol
abbrev pub GoesOn : Reads → Position → Reading → List Task → List ℕ → Type 0
GoesOn On s r tasks text = EndsFamily s r tasks text
GoesOn Ended s r tasks text = Owes tasks text
GoesOn Wrong s r tasks text = ⊥

abbrev pub StaysFair : Reads → Reading → Type 0
StaysFair On r = IsFair r
StaysFair Ended r = ⊤
StaysFair Wrong r = ⊤
