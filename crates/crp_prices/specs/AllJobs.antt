-- All jobs of a position, marked, in the order in which the pass reads them; and the bound by prices that the pass over them shows.
use Rattle.std.specs.Prelude.{ℕ, zero, suc, ◌-◌, min, true, false, ◌&&◌, ◌==◌, nat_lt, if◌then◌else◌, List, [], ◌∷◌, ◌++◌}
use Rattle.crp_plan.specs.Rows.{holds}
use Rattle.crp_plan.specs.Bay.{Position}
use Rattle.crp_prices.specs.Prices.{least_of, price_bound}
use Rattle.crp_prices.specs.declared.job.MarkedJob.{MarkedJob}
use Rattle.crp_prices.specs.Pass.{row_passes}

-- the first turn of rank r where it blocks in the stack, on what is under it; else the first turn that is none
abbrev pub turn_in : ℕ → ℕ → List ℕ → List ℕ → ℕ
turn_in ordered r under [] = suc ordered
turn_in ordered r under (c ∷ stack) = if (c == r) && nat_lt (least_of ordered under) r then least_of ordered under else turn_in ordered r (under ++ c ∷ []) stack

abbrev pub turn_among : ℕ → ℕ → List (List ℕ) → ℕ
turn_among ordered r [] = suc ordered
turn_among ordered r (stack ∷ stacks) = min (turn_in ordered r [] stack) (turn_among ordered r stacks)

-- the first turn of rank r; where it does not block, the first turn that is none
abbrev pub turn_of : Position → ℕ → ℕ
turn_of s r = turn_among s.ordered r s.stacks

-- the later jobs of a turn, of ranks up to r, in falling rank
abbrev pub later_jobs : Position → ℕ → ℕ → List MarkedJob
later_jobs s turn zero = []
later_jobs s turn (suc r) = (if nat_lt (turn_of s (suc r)) turn && nat_lt turn (suc r) then record { rank = suc r; turn = turn; is_later = true } ∷ [] else []) ++ later_jobs s turn r

-- the first jobs of a turn of a stack, the upper first, on what is under them
abbrev pub first_jobs : ℕ → ℕ → List ℕ → List ℕ → List MarkedJob
first_jobs ordered turn under [] = []
first_jobs ordered turn under (c ∷ stack) = first_jobs ordered turn (under ++ c ∷ []) stack ++ (if (least_of ordered under == turn) && nat_lt turn c
    then record { rank = c; turn = turn; is_later = false } ∷ [] else [])

-- the stack that has the rank
abbrev pub holder : ℕ → List (List ℕ) → List ℕ
holder x [] = []
holder x (stack ∷ stacks) = if holds x stack then stack else holder x stacks

-- all jobs of a turn, of ranks up to most
abbrev pub turn_jobs : Position → ℕ → ℕ → List MarkedJob
turn_jobs s most turn = later_jobs s turn most ++ first_jobs s.ordered turn [] (holder turn s.stacks)

-- all jobs of so many turns
abbrev pub jobs_in : Position → ℕ → ℕ → ℕ → List MarkedJob
jobs_in s most turn zero = []
jobs_in s most turn (suc turns) = turn_jobs s most turn ++ jobs_in s most (suc turn) turns

-- all jobs, where no rank is above this
abbrev pub jobs_of : Position → ℕ → List MarkedJob
jobs_of s most = jobs_in s most s.next (suc s.ordered - s.next)

-- what each row earns at most, by the pass over all jobs of ranks up to 96: there are no others
abbrev pub mosts : (ℕ → ℕ → ℕ) → ℕ → Position → List ℕ
mosts price unit s = row_passes price unit s.ordered (jobs_of s 96) s.heights s.stacks

-- the bound by prices, with these
abbrev pub pass_bound : (ℕ → ℕ → ℕ) → ℕ → Position → ℕ
pass_bound price unit s = price_bound price unit s (mosts price unit s)
