-- What one worker may do to the limit and the claims of a search, each call being one step on the shared words as the worker meets them.
use Rattle.std.specs.Prelude.{◌≡◌, ℕ, ◌<◌, ◌≤◌, ◌⊎◌, Bool, false, List, length}
use Rattle.crp_plan.specs.Bay.{Problem}
use Rattle.crp_plan.specs.Faults.{IsPlanPath}
use Rattle.crp_plan.specs.declared.running.View.{View}
use Rattle.crp_plan.specs.Running.{words, after_see, after_offer, after_claim, is_granted}

-- See: the answer is the limit, at most all that the worker saw or offered before, and it has seen that
pub record SeesLimit (old : View) (answer : ℕ) (new : View) : Type 0 where
  pub not_above_seen : answer ≤ old.seen
  pub not_above_mine : answer ≤ old.mine
  pub after : new ≡ (after_see (words answer 0 old)).view

-- Offer of a plan with so many relocations, at some limit that is at most all that the worker saw or offered before
pub record OffersPlan (count : ℕ) (old new : View) : Type 0 where
  pub limit : ℕ
  pub not_above_seen : limit ≤ old.seen
  pub not_above_mine : limit ≤ old.mine
  pub after : new ≡ (after_offer count (words limit 0 old)).view

-- Claim, where so much is spent: it is granted or refused by the budget
pub record TriesClaim (budget : ℕ) (old : View) (answer : Bool) (new : View) : Type 0 where
  pub spent : ℕ
  pub answer_is : answer ≡ is_granted budget (words 0 spent old)
  pub after : new ≡ (after_claim budget (words 0 spent old)).view

-- Claim by a worker: it tries, unless it was refused before; then the answer is no, and nothing is done
pub record ClaimsExpansion (budget : ℕ) (old : View) (answer : Bool) (new : View) : Type 0 where
  pub tries : old.refused ≡ 0 → TriesClaim budget old answer new
  pub was_refused : 0 < old.refused → (answer ≡ false) × (new ≡ old)

-- what a worker's view keeps while it sees, offers plans of the problem and claims: what it saw and what it offered never rises, what it offered
-- last is a plan's relocations, and its claims only add up
pub record Advances (p : Problem) (old new : View) : Type 0 where
  pub seen : new.seen ≤ old.seen
  pub mine : new.mine ≤ old.mine
  pub offered : (new.mine ≡ old.mine) ⊎ ((path : List ℕ) × IsPlanPath p path × (length path ≡ new.mine))
  pub granted : old.granted ≤ new.granted
  pub refused : old.refused ≤ new.refused
  pub share : new.share ≡ old.share

-- what a limit has of one worker: its view, and the names that it put
pub record Dealings : Type 0 where
  pub view : View
  pub puts : List (List ℕ)

abbrev pub dealt : View → List (List ℕ) → Dealings
dealt view puts = record { view = view; puts = puts }

-- nothing but claims that were granted
abbrev pub OnlyGrants : View → View → Type 0
OnlyGrants old new = new ≡ record old { granted = new.granted }
