-- Prices that a table gives.
use Rattle.std.specs.Prelude.{ℕ, ◌+◌, ◌*◌, ◌&&◌, nat_lt, if◌then◌else◌, List, slice_index}

-- the price of a job in a table of 97 numbers for each rank, one for each turn; beyond the table it is 0
abbrev pub price_in : List ℕ → ℕ → ℕ → ℕ
price_in table rank turn = if nat_lt rank 97 && nat_lt turn 97 then slice_index table (rank * 97 + turn) else 0
