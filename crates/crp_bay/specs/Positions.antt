-- The position at a path, and the rows by which it goes on, computed.
use Rattle.std.specs.Prelude.{ℕ, zero, suc, ◌+◌, ◌-◌, Bool, false, not, ◌==◌, ◌&&◌, nat_le, nat_lt, if◌then◌else◌, List, [], ◌∷◌, ◌++◌, length, filter, slice_set, slice_index_or, Option, None, Some}
use Rattle.crp_plan.specs.Rows.{holds}
use Rattle.crp_plan.specs.Bay.{Problem, start, Position}

-- the rank on top, or 0
abbrev pub top : List ℕ → ℕ
top [] = 0
top (x ∷ []) = x
top (x ∷ y ∷ ys) = top (y ∷ ys)

-- the stack without its top
abbrev pub without_top : List ℕ → List ℕ
without_top [] = []
without_top (x ∷ []) = []
without_top (x ∷ y ∷ ys) = x ∷ without_top (y ∷ ys)

-- the rank is on top
abbrev pub ends_in : ℕ → List ℕ → Bool
ends_in x [] = false
ends_in x (y ∷ []) = y == x
ends_in x (y ∷ z ∷ ys) = ends_in x (z ∷ ys)

-- the index of the first stack that holds the rank; where none does, how many there are
abbrev pub place : ℕ → List (List ℕ) → ℕ
place x [] = 0
place x (stack ∷ stacks) = if holds x stack then 0 else suc (place x stacks)

-- the index of the next container's stack
abbrev pub source : Position → ℕ
source s = place s.next s.stacks

-- the stack at an index, or the empty one
abbrev pub stack_at : Position → ℕ → List ℕ
stack_at s i = slice_index_or s.stacks i []

-- the next container is on top of its stack, and is to leave
abbrev pub can_take : Position → Bool
can_take s = nat_le s.next s.ordered && ends_in s.next (stack_at s (source s))

-- where the take leads
abbrev pub taken : Position → Position
taken s = record s { next = suc s.next; stacks = slice_set s.stacks (source s) (without_top (stack_at s (source s))) }

-- at most so many takes
abbrev pub settle : ℕ → Position → Position
settle zero s = s
settle (suc most) s = if can_take s then settle most (taken s) else s

-- with each take made that is legal
abbrev pub settled : Position → Position
settled s = settle (s.ordered + 1 - s.next) s

-- where no container can be taken: whether the row is a legal one
abbrev pub can_shift : Position → ℕ → Bool
can_shift s row =
    nat_le s.next s.ordered && (nat_le 1 row && (not (source s == row - 1) && nat_lt (length (stack_at s (row - 1))) (slice_index_or s.heights (row - 1) 0)))

-- where the shift to the row leads, before the takes after it
abbrev pub shifted : Position → ℕ → Position
shifted s row =
    record s { stacks = slice_set (slice_set s.stacks (source s) (without_top (stack_at s (source s)))) (row - 1) (stack_at s (row - 1) ++ top (stack_at s (source s)) ∷ []) }

-- where the legal row leads
abbrev pub child : Position → ℕ → Position
child s row = settled (shifted s row)

-- so many numbers, from this one on
abbrev pub counted : ℕ → ℕ → List ℕ
counted from zero = []
counted from (suc more) = from ∷ counted (suc from) more

-- the legal rows, rising
abbrev pub targets : Position → List ℕ
targets s = filter (can_shift s) (counted 1 (length s.heights))

-- where a path leads from a position, if each of its rows is a legal one
abbrev pub walk : Position → List ℕ → Option Position
walk s [] = Some s
walk s (row ∷ path) = if can_shift s row then walk (child s row) path else None

-- the position at the path
abbrev pub at : Problem → List ℕ → Option Position
at p path = walk (settled (start p)) path
