-- What contracts see of a `Shared` and of a `Seat`, and what a step says to its seat.
use Rattle.std.specs.Prelude.{◌≡◌, ℕ, ◌+◌, ◌<◌, ◌≤◌, Bool}
use Rattle.atomic_table.specs.Seated.{TableId}
use Rattle.crp_plan.specs.declared.running.View.{View}
use Rattle.crp_plan.specs.Running.{words, after_offer, after_claim, is_granted}
use Rattle.crp_incumbent.specs.declared.rule.Key.{Key}
use Rattle.crp_incumbent.specs.declared.rule.KeyedView.{KeyedView}
use Rattle.crp_incumbent.specs.Rule.{one_open, IsLimit}

-- which shared words these are, and what they are about
pub record Shared : Type 0 where
  pub table : TableId
  pub key : Key

-- at which shared words a seat is, and what it knows and did
pub record Seat : Type 0 where
  pub of : Shared
  pub view : View

-- a seat that has used so many of the claims that are lent to it: these were granted too
abbrev pub seat_at : TableId → KeyedView → ℕ → Seat
seat_at table s used = record { of = record { table = table; key = s.key }; view = record s.view { granted = s.view.granted + used } }

-- a seat has these shares, refused claims and loan, as the table has them, and used no more than the loan, which is of some budget
pub record IsSeat (s : KeyedView) (share refused loan used : ℕ) : Type 0 where
  pub share_is : share ≡ s.view.share
  pub refused_is : refused ≡ s.view.refused
  pub loan_is : loan ≡ s.loan
  pub few_refused : refused ≤ share
  pub some_share : 1 ≤ share
  pub within : used ≤ loan
  pub few_lent : loan < one_open
  pub of_budget : 0 < loan → 0 < s.key.budget

-- the same seat with another view
abbrev pub with_view : Seat → View → Seat
with_view s v = record s { view = v }

-- a limit that a seat may meet: at most all that it saw and offered, at most the start, and the start or the relocations of some complete plan
pub record FindsLimit (s : Seat) (limit : ℕ) : Type 0 where
  pub seen : limit ≤ s.view.seen
  pub mine : limit ≤ s.view.mine
  pub start : limit ≤ s.of.key.start
  pub known : IsLimit s.of.key limit

-- a plan with so many relocations was offered, under the limit that was met
pub record OffersCount (s : Seat) (count : ℕ) (s' : Seat) : Type 0 where
  pub limit : ℕ
  pub found : FindsLimit s limit
  pub after : s' ≡ with_view s (after_offer count (words limit 0 s.view)).view

-- one expansion was claimed while so many were spent, and the answer says whether it was granted
pub record ClaimsOne (s : Seat) (answer : Bool) (s' : Seat) : Type 0 where
  pub spent : ℕ
  pub answer_is : answer ≡ is_granted s.of.key.budget (words 0 spent s.view)
  pub after : s' ≡ with_view s (after_claim s.of.key.budget (words 0 spent s.view)).view
