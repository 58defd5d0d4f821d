-- The rule of a deque: the names put, counted by name, are those taken by all passes and those held.
use Rattle.std.specs.Prelude.{◌≡◌, ℕ, ◌+◌, ◌-◌, ◌≤◌, List, [], ◌∷◌, ◌++◌}
use mathlib.Core.Option.{some}
use lib.ListN.{get_elem?}
use Rattle.crp_pool.specs.declared.hand.Hand.{Hand}
use Rattle.crp_pool.specs.Weigh.{weigh}

-- a pass with so many shares, which put and took these names
abbrev pub hand : ℕ → List (List ℕ) → List (List ℕ) → Hand
hand shares put taken = record { shares = shares; put = put; taken = taken }

-- all shares of a deque: one for its worker, and one for each of at most 64 passes
abbrev pub all_deque_shares : ℕ
all_deque_shares = 65

-- a pass without a share has put and taken nothing
abbrev pub IdleIsEmpty : List Hand → Type 0
IdleIsEmpty views = (port : ℕ) (v : Hand) → get_elem? views port ≡ some v → v.shares ≡ 0 → (v.put ≡ []) × (v.taken ≡ [])

-- the rule: the shares are all there, what was put is what was taken and what the deque holds, and who has no share did nothing
abbrev pub Balanced : List (List ℕ) → List Hand → Type 0
Balanced items views =
    (weigh (λ v. v.shares) views ≡ all_deque_shares)
    × ((h : List ℕ → ℕ) → weigh (λ v. weigh h v.put) views ≡ weigh (λ v. weigh h v.taken) views + weigh h items)
    × IdleIsEmpty views

-- what the pass put is what it took, each name as often
abbrev pub Settled : Hand → Type 0
Settled v = (h : List ℕ → ℕ) → weigh h v.put ≡ weigh h v.taken

-- what a pass learns of a deque that it finds empty: it has no more than all shares, and where it has them all, what was put was taken
abbrev pub FoundEmpty : Hand → Type 0
FoundEmpty v = (v.shares ≤ all_deque_shares) × (v.shares ≡ all_deque_shares → Settled v)

-- the pass has also put these names
abbrev pub puts : Hand → List (List ℕ) → Hand
puts v xs = hand v.shares (v.put ++ xs) v.taken

-- the pass has also taken these names
abbrev pub takes : Hand → List (List ℕ) → Hand
takes v xs = hand v.shares v.put (v.taken ++ xs)

-- one share is cut off, for a pass that has done nothing
abbrev pub share_cut : Hand → Hand
share_cut v = hand (v.shares - 1) v.put v.taken

-- the shares of two passes, and what both have done
abbrev pub both : Hand → Hand → Hand
both v w = hand (v.shares + w.shares) (v.put ++ w.put) (v.taken ++ w.taken)

-- all that these passes put
abbrev pub put_by : List Hand → List (List ℕ)
put_by [] = []
put_by (v ∷ vs) = v.put ++ put_by vs

-- all that these passes took
abbrev pub taken_by : List Hand → List (List ℕ)
taken_by [] = []
taken_by (v ∷ vs) = v.taken ++ taken_by vs
