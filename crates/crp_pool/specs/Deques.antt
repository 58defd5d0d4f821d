-- A deque's worker and the ways to it, as the pool's own clauses see them.
use Rattle.std.specs.Prelude.{◌≡◌, ℕ, ◌+◌, ◌*◌, ◌<◌, ◌≤◌, List, [], length, map, All, slice_index_or as get_or, Vec}
use Rattle.std.specs.declared.alloc.Global.{Global}
use Rattle.atomic_blocks.specs.Lent.{RowsId}
use Rattle.crp_pool.specs.declared.hand.Hand.{Hand}
use Rattle.crp_pool.specs.Weigh.{weigh}
use Rattle.crp_pool.specs.Hand.{hand, all_deque_shares, share_cut, both}

-- which deque it is
abbrev pub DequeId : Type 0
DequeId = RowsId × Global

-- the worker of a deque: what it did, the index of its next push, and the slots that it has
pub record Own : Type 0 where
  pub deque : DequeId
  pub hand : Hand
  pub index : ℕ
  pub slots : ℕ

-- a way to a deque, by a pass over it
pub record Way : Type 0 where
  pub deque : DequeId
  pub hand : Hand

-- the pass of a way
abbrev pub way_hand : Way → Hand
way_hand w = w.hand

-- the deque of a way
abbrev pub way_deque : Way → DequeId
way_deque w = w.deque

-- what a deque's worker did
abbrev pub own_hand : Own → Hand
own_hand o = o.hand

-- the deque of a worker
abbrev pub own_deque : Own → DequeId
own_deque o = o.deque

-- what stays of a way while it is used: its deque, its shares, and what it put
abbrev pub shape : Way → DequeId × ℕ × List (List ℕ)
shape w = (w.deque, w.hand.shares, w.hand.put)

-- what stays of a way to this deque with one share, which puts nothing
abbrev pub guest : DequeId → DequeId × ℕ × List (List ℕ)
guest d = (d, 1, [])

-- what stays of a deque's worker while names leave: its shares, and what it put
abbrev pub own_kept : Own → ℕ × List (List ℕ)
own_kept o = (o.hand.shares, o.hand.put)

-- all shares of these deques are with their workers, and each worker has some
abbrev pub Whole : List Own → Type 0
Whole owns = (weigh (λ o. o.hand.shares) owns ≡ length owns * all_deque_shares) × All (λ o. 0 < o.hand.shares) owns

-- a new worker with so many shares, whose deque has at least so many slots
abbrev pub IsFresh : ℕ → ℕ → Own → Type 0
IsFresh shares capacity o = (o.hand ≡ hand shares [] []) × (o.index ≡ 0) × (capacity ≤ o.slots)

-- a new way to a deque
abbrev pub fresh_way : DequeId → Way
fresh_way d = record { deque = d; hand = hand 1 [] [] }

-- one share went from a worker to a new way
abbrev pub GivesShare : Own → Own → Type 0
GivesShare old new = (new.deque ≡ old.deque) × (new.hand ≡ share_cut old.hand) × (new.index ≡ old.index) × (old.slots ≤ new.slots)

-- one share went from each of these workers to a new way
abbrev pub EachGivesShare : List Own → List Own → Type 0
EachGivesShare old new = (length new ≡ length old) × ((k : ℕ) (d : Own) → k < length old → GivesShare (get_or old k d) (get_or new k d))

-- a weight of passes that adds up when one takes in another
abbrev pub AddsUp : (Hand → ℕ) → Type 0
AddsUp f = (v w : Hand) → f (both v w) ≡ f v + f w

-- the ways of a row
abbrev pub row_ways : Vec Way Global → List Way
row_ways r = r.items

-- a weight of all passes: of the workers and of the rows of ways
abbrev pub tally : (Hand → ℕ) → List Own → List (List Way) → ℕ
tally f owns rows = weigh f (map own_hand owns) + weigh (λ r. weigh f (map way_hand r)) rows
