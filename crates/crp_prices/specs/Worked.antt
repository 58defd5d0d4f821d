-- A bay and prices that can be added up by hand.
use Rattle.std.specs.Prelude.{ℕ, ◌==◌, if◌then◌else◌, List, [], ◌∷◌}
use Rattle.crp_plan.specs.Bay.{Position}
use Rattle.crp_prices.specs.declared.job.Job.{Job}
use Rattle.crp_prices.specs.declared.list.Priced.{Priced}

-- three rows of three, two and two tiers: 1 4 3 | 5 | 2, all of which leave
abbrev pub worked : Position
worked = record { heights = 3 ∷ 2 ∷ 2 ∷ []; ordered = 5; next = 1; stacks = (1 ∷ 4 ∷ 3 ∷ []) ∷ (5 ∷ []) ∷ (2 ∷ []) ∷ [] }

-- 3 has a price in turn 1, and 4 in the turns 1, 2 and 3
abbrev pub worked_price : ℕ → ℕ → ℕ
worked_price c v =
    if c == 3 then (if v == 1 then 10 else 0)
    else if c == 4 then (if v == 1 then 14 else if v == 2 then 6 else if v == 3 then 3 else 0)
    else 0

-- 4 comes up in a turn
abbrev pub four_in : ℕ → List Job
four_in v = record { rank = 4; turn = v } ∷ []

-- the same as a list
abbrev pub worked_list : List Priced
worked_list =
    record { rank = 3; turn = 1; price = 10 } ∷ record { rank = 4; turn = 1; price = 14 } ∷ record { rank = 4; turn = 2; price = 6 }
    ∷ record { rank = 4; turn = 3; price = 3 } ∷ []
