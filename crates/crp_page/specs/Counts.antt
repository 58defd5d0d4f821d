-- What is counted of the bays of a report that is followed.
use Rattle.std.specs.Prelude.{ℕ, ◌-◌, List, length, sum_by, count_by}
use Rattle.crp_follow.specs.Faults.{is_shift}
use Rattle.crp_follow.specs.Stated.{moves_of}
use Rattle.crp_follow.specs.Followed.{BayFollowed}
use Rattle.crp_follow.specs.Table.{standing}
use Rattle.crp_said.specs.Said.{is_settled}
use Rattle.crp_page.specs.declared.counting.Counts.{Counts}

-- how many moves a bay has, how many of them are relocations, and how many takes
abbrev pub moves_in : BayFollowed → ℕ
moves_in b = length b.stated.moves

abbrev pub relocations_in : BayFollowed → ℕ
relocations_in b = count_by is_shift (moves_of b.stated.moves)

abbrev pub takes_in : BayFollowed → ℕ
takes_in b = moves_in b - relocations_in b

-- how many containers stand in it after its moves
abbrev pub left_in : BayFollowed → ℕ
left_in b = standing b.after

-- the four numbers of a bay
abbrev pub counts_of : BayFollowed → Counts
counts_of b = record { moves = moves_in b; relocations = relocations_in b; takes = takes_in b; left = left_in b }

-- and their sums
abbrev pub sums_of : List BayFollowed → Counts
sums_of bays = record { moves = sum_by moves_in bays; relocations = sum_by relocations_in bays; takes = sum_by takes_in bays; left = sum_by left_in bays }

-- how many bays are decided
abbrev pub decided_in : List BayFollowed → ℕ
decided_in bays = count_by (λ b. is_settled b.stated.said) bays
