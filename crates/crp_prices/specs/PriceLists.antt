-- Prices as a list of those that are not 0, and how that is spelled.
use Rattle.std.specs.Prelude.{◌≡◌, ℕ, ◌<◌, ◌≤◌, ◌⊎◌, ◌==◌, ◌&&◌, if◌then◌else◌, List, [], ◌∷◌, ◌++◌, ⊤}
use Rattle.std.specs.List.{AllByRecursion}
use Rattle.std.specs.Fmt.{decimal}
use Rattle.crp_prices.specs.declared.list.Priced.{Priced}

-- what may be listed: a rank and a turn of at most 96, and a price from 1 to 9999
pub record IsPriced (e : Priced) : Type 0 where
  pub rank : e.rank ≤ 96
  pub turn : e.turn ≤ 96
  pub some : 1 ≤ e.price
  pub few : e.price ≤ 9999

-- one stands before the other: its rank is lower, or the same and its turn is lower
abbrev pub StandsBefore : Priced → Priced → Type 0
StandsBefore a b = (a.rank < b.rank) ⊎ ((a.rank ≡ b.rank) × (a.turn < b.turn))

-- each may be listed, and they rise
abbrev pub AreListed : List Priced → Type 0
AreListed [] = ⊤
AreListed (e ∷ list) = IsPriced e × AllByRecursion (StandsBefore e) list × AreListed list

-- the price of a job; of one that is not listed it is 0
abbrev pub listed_price : List Priced → ℕ → ℕ → ℕ
listed_price [] rank turn = 0
listed_price (e ∷ list) rank turn = if (e.rank == rank) && (e.turn == turn) then e.price else listed_price list rank turn

-- ---- how a list is spelled: the rank, and behind it a turn and a price for each that has it

-- a turn and its price
abbrev pub pair_text : Priced → List ℕ
pair_text e = decimal e.turn ++ 46 ∷ decimal e.price

-- one behind another of this rank: where it has the same, its turn and its price alone
abbrev pub next_text : ℕ → Priced → List ℕ
next_text rank e = if e.rank == rank then 44 ∷ pair_text e else 59 ∷ (decimal e.rank ++ 58 ∷ pair_text e)

-- those behind one of this rank
abbrev pub behind_text : ℕ → List Priced → List ℕ
behind_text rank [] = []
behind_text rank (e ∷ list) = next_text rank e ++ behind_text e.rank list

-- a list
abbrev pub list_text : List Priced → List ℕ
list_text [] = []
list_text (e ∷ list) = (decimal e.rank ++ 58 ∷ pair_text e) ++ behind_text e.rank list
