-- The rule of the shared words: what holds of the limit, of the claims and of the views of all seats between any two steps.
use Rattle.std.specs.Prelude.{◌≡◌, ℕ, ◌+◌, ◌-◌, ◌/◌, ◌%◌, ◌^◌, ◌<◌, ◌≤◌, ◌⊎◌, false, List, [], ◌∷◌, length, min, slice_index}
use Rattle.std.specs.List.{sum_by}
use mathlib.Core.Option.{some}
use lib.ListN.{get_elem?}
use Rattle.atomic_table.specs.Table.{State}
use Rattle.crp_plan.specs.Bay.{Problem}
use Rattle.crp_plan.specs.Faults.{IsPlanPath}
use Rattle.crp_plan.specs.declared.running.View.{View}
use Rattle.crp_incumbent.specs.declared.rule.Key.{Key}
use Rattle.crp_incumbent.specs.declared.rule.KeyedView.{KeyedView}
use Rattle.crp_incumbent.specs.declared.rule.Opening.{Opening}

-- all shares of the words: one for each of at most 64 workers, and one
abbrev pub all_shares : ℕ
all_shares = 65

-- the largest budget
abbrev pub most_budget : ℕ
most_budget = 2 ^ 40

-- how many words the table has, used or not
abbrev pub all_words : ℕ
all_words = 48

-- the claims are the seventeenth word, 128 bytes from the first
abbrev pub claims_at : ℕ
claims_at = 16

-- the limit is the thirty-third word, 128 bytes from the claims
abbrev pub limit_at : ℕ
limit_at = 32

-- the word of the claims counts what is open in multiples of this, and below it what is lent
abbrev pub one_open : ℕ
one_open = 2 ^ 20

-- how many claims of the budget are open: the table knows of nobody to whom they were granted
abbrev pub open_in : ℕ → ℕ
open_in claims = claims / one_open

-- how many of these are lent to seats, each of which spends its own alone
abbrev pub lent_in : ℕ → ℕ
lent_in claims = claims % one_open

-- the key: the problem, the limit at the start and the budget that the words were opened with
abbrev pub key_of : Opening → Key
key_of o = record { problem = o.problem.value; start = o.start; budget = o.budget; thin = o.thin; timed = o.timed }

-- the view of the first seat: it has seen the start, did nothing, and has all shares
abbrev pub first_view : ℕ → View
first_view start = record { seen = start; mine = start; granted = 0; refused = 0; share = all_shares }

-- the first seat, to which nothing is lent
abbrev pub first : Key → KeyedView
first key = record { key = key; view = first_view key.start; loan = 0 }

-- what a seat that was given up by a join leaves: it counts for nothing in any sum, nor in the least
abbrev pub gone : KeyedView
gone = record {
  key = record { problem = record { heights = []; ordered = 0; stacks = [] }; start = 0; budget = 0; thin = 0; timed = false };
  view = record { seen = 0; mine = 2 ^ 64; granted = 0; refused = 0; share = 0 };
  loan = 0;
}

-- a view that gave one share away
abbrev pub view_kept : View → View
view_kept v = record v { share = v.share - 1 }

-- the view that was given one share: it has seen what the giver saw, and did nothing
abbrev pub view_given : ℕ → View → View
view_given start v = record { seen = v.seen; mine = start; granted = 0; refused = 0; share = 1 }

-- the seat that gave one share away; what is lent to it stays
abbrev pub kept : KeyedView → KeyedView
kept s = record s { view = view_kept s.view }

-- the seat that was given one share
abbrev pub given : KeyedView → KeyedView
given s = record s { view = view_given s.key.start s.view; loan = 0 }

-- what two views know and did together: the least they saw, the least they offered, and the sums of the rest
abbrev pub view_joined : View → View → View
view_joined v w = record {
  seen = min v.seen w.seen;
  mine = min v.mine w.mine;
  granted = v.granted + w.granted;
  refused = v.refused + w.refused;
  share = v.share + w.share;
}

-- the seat that two were made, with what was lent to both
abbrev pub joined_seat : KeyedView → KeyedView → KeyedView
joined_seat s t = record s { view = view_joined s.view t.view; loan = s.loan + t.loan }

-- some complete plan of the problem has so many relocations
abbrev pub IsPlanCount : Problem → ℕ → Type 0
IsPlanCount p count = (path : List ℕ) × IsPlanPath p path × (length path ≡ count)

-- the limit at the start, or the relocations of some complete plan
abbrev pub IsLimit : Key → ℕ → Type 0
IsLimit key n = (n ≡ key.start) ⊎ IsPlanCount key.problem n

-- a number that a seat may have seen or offered under this limit: neither below it nor above the start, and the start or a plan's relocations
pub record IsAbove (key : Key) (limit n : ℕ) : Type 0 where
  pub low : limit ≤ n
  pub high : n ≤ key.start
  pub known : IsLimit key n

-- a seat that was not given up: it has this key and a share, what it saw and offered is above the limit, and it was refused no more often than it has shares
pub record IsLive (key : Key) (limit : ℕ) (s : KeyedView) : Type 0 where
  pub same : s.key ≡ key
  pub seen : IsAbove key limit s.view.seen
  pub mine : IsAbove key limit s.view.mine
  pub refused : s.view.refused ≤ s.view.share
  pub share : 1 ≤ s.view.share

-- a seat's granted claims
abbrev pub granted_of : KeyedView → ℕ
granted_of s = s.view.granted

-- a seat's refused claims
abbrev pub refused_of : KeyedView → ℕ
refused_of s = s.view.refused

-- what is lent to a seat
abbrev pub loan_of : KeyedView → ℕ
loan_of s = s.loan

-- a seat's shares
abbrev pub share_of : KeyedView → ℕ
share_of s = s.view.share

-- the least of a number and of all that the seats offered
abbrev pub least_mine : ℕ → List KeyedView → ℕ
least_mine a [] = a
least_mine a (s ∷ ss) = min s.view.mine (least_mine a ss)

-- so many claims may be lent, beside one that is granted, to a seat that has such a loan: they are open and lent to nobody, and the loans can be counted
pub record IsBatch (claims loan more : ℕ) : Type 0 where
  pub covered : lent_in claims + more < open_in claims
  pub all_lent : lent_in claims + more < one_open
  pub seat_lent : loan + more < one_open

-- the rule: each seat lives or was given up; the limit is the least of the start and of all that was offered; each claim of the budget is open or was
-- granted; what is lent is lent to the seats, and is open; where any was refused, none is open; and the shares are all there
pub record KeepsRule (key : Key) (claims limit : ℕ) (views : List KeyedView) : Type 0 where
  pub budget : key.budget ≤ most_budget
  pub start : key.start < 2 ^ 32
  pub each : (id : ℕ) (s : KeyedView) → get_elem? views id ≡ some s → IsLive key limit s ⊎ (s ≡ gone)
  pub least : limit ≡ least_mine key.start views
  pub granted : open_in claims + sum_by granted_of views ≡ key.budget
  pub lent : lent_in claims ≡ sum_by loan_of views
  pub covered : lent_in claims ≤ open_in claims
  pub refused : 0 < sum_by refused_of views → open_in claims ≡ 0
  pub whole : sum_by share_of views ≡ all_shares

-- the table keeps the rule by two of its words
pub record Keeps (key : Key) (s : State (Unit {0}) KeyedView) : Type 0 where
  pub words : length s.words ≡ all_words
  pub kept : KeepsRule key (slice_index s.words claims_at) (slice_index s.words limit_at) s.views
