-- When the search of a bay ends for its time. Moments and limits are milliseconds.
use Rattle.std.specs.Prelude.{ℕ, ◌+◌, ◌-◌, ◌^◌, min, Option, Some, None}
use Rattle.std.specs.Option.{option_map}
use Rattle.crp_solve.specs.declared.settings.TimeLimits.{TimeLimits}

-- the moment that is so much later, or the last that a clock of 64 bits shows
abbrev pub later : ℕ → ℕ → ℕ
later moment limit = min (moment + limit) (2 ^ 64 - 1)

-- the first of two moments that may be missing
abbrev pub first_of : Option ℕ → Option ℕ → Option ℕ
first_of None other = other
first_of (Some one) None = Some one
first_of (Some one) (Some other) = Some (min one other)

-- when a search ends at the latest that begins now, in a run that began then: the limit of a bay counts from now, that of all bays from the begin of the run
abbrev pub end_of : TimeLimits → ℕ → ℕ → Option ℕ
end_of limits begun now = first_of (option_map (later now) limits.bay) (option_map (later begun) limits.all)
