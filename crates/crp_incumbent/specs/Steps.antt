-- What each step on the shared words says of its seat, before and after.
use Rattle.std.specs.Prelude.{◌≡◌, ◌≢◌, ℕ, ◌+◌, ◌-◌, ◌*◌, ◌<◌, ◌≤◌, []}
use Rattle.atomic_table.specs.Table.{Step, Me}
use Rattle.crp_plan.specs.declared.running.View.{View}
use Rattle.crp_plan.specs.Running.{words, after_see, after_offer}
use Rattle.crp_incumbent.specs.declared.rule.KeyedView.{KeyedView}
use Rattle.crp_incumbent.specs.Rule.{IsAbove, all_shares, one_open}

-- a seat as the table has it
abbrev pub Mine : Type 0
Mine = Me (Unit {0}) KeyedView

-- a limit that the rule allows beside this seat
pub record IsLimitBeside (s : KeyedView) (limit : ℕ) : Type 0 where
  pub seen : limit ≤ s.view.seen
  pub mine : limit ≤ s.view.mine
  pub start : IsAbove s.key limit limit

-- the seat after a step: its key and its loan are the same, and it holds no slot
pub record Becomes (s : KeyedView) (view : View) (m : Mine) : Type 0 where
  pub standing : m.0 ≡ record s { view = view }
  pub slots : m.1 ≡ []

-- the view with so many more granted claims
abbrev pub granted_more : ℕ → View → View
granted_more n v = record v { granted = v.granted + n }

-- the view with one more refused claim
abbrev pub refused_more : View → View
refused_more v = record v { refused = v.refused + 1 }

-- the limit that was found was seen
pub record Saw (st : Step (Unit {0})) (m : Mine) (found : ℕ) (m' : Mine) : Type 0 where
  pub below : IsLimitBeside m.0 found
  pub after : Becomes m.0 (after_see (words found 0 m.0.view)).view m'

-- a plan was offered under the limit that was found
pub record OfferedUnder (st : Step (Unit {0})) (m : Mine) (found : ℕ) (m' : Mine) : Type 0 where
  pub below : IsLimitBeside m.0 found
  pub after : Becomes m.0 (after_offer st.first (words found 0 m.0.view)).view m'

-- so many claims of the seat's loan were granted, and the rest came back: nothing is lent to it any more
pub record Settled (st : Step (Unit {0})) (m : Mine) (found : ℕ) (m' : Mine) : Type 0 where
  pub used : ℕ
  pub operand : st.first ≡ used * one_open + m.0.loan
  pub standing : m'.0 ≡ record m.0 { view = granted_more used m.0.view; loan = 0 }
  pub slots : m'.1 ≡ []

-- where the word was as expected, one claim was granted and `second + one_open - first` are lent; else nothing happened
pub record TookUnder (st : Step (Unit {0})) (m : Mine) (found : ℕ) (m' : Mine) : Type 0 where
  pub budget : found ≡ st.first → 0 < m.0.key.budget
  pub took : found ≡ st.first → m'.0 ≡ record m.0 { view = granted_more 1 m.0.view; loan = m.0.loan + (st.second + one_open - st.first) }
  pub missed : found ≢ st.first → m'.0 ≡ m.0
  pub slots : m'.1 ≡ []

-- one claim was refused, where no claim of the budget is open and none is lent; else nothing happened
pub record RefusedUnder (st : Step (Unit {0})) (m : Mine) (found : ℕ) (m' : Mine) : Type 0 where
  pub none : found ≡ 0 → m'.0 ≡ record m.0 { view = refused_more m.0.view }
  pub some : found ≢ 0 → m'.0 ≡ m.0
  pub slots : m'.1 ≡ []

-- the seat has no more than all shares, and less is lent to it than the word can count
pub record Looked (st : Step (Unit {0})) (m : Mine) (found : ℕ) (m' : Mine) : Type 0 where
  pub share : m.0.view.share ≤ all_shares
  pub loan : m.0.loan < one_open
