-- What is known of a bay, in numbers.
use Rattle.std.specs.Prelude.{ℕ, unwrap_or}
use Rattle.crp_checker.specs.declared.verdict.Verdict.{Verdict}
use Rattle.crp_checker.specs.declared.verdict.Verdict.TheVariants as verdict
use Rattle.crp_c.specs.declared.known.Known.{Known}
use Rattle.crp_c.specs.declared.known.TheConstants.{OPTIMAL, NO_PLAN, BOUNDS, FIRST, NONE}

-- so many relocations, which is the fewest and which a plan has
abbrev pub exactly : ℕ → ℕ → Known
exactly kind count = record { kind = kind; lower = count; upper = count }

-- what a verdict says: its kind, below how many relocations there is no plan, and how many some plan has, if one is known
abbrev pub numbers_of : Verdict → Known
numbers_of (verdict.Optimal count) = exactly OPTIMAL count
numbers_of verdict.NoPlan = exactly NO_PLAN NONE
numbers_of (verdict.Bounds lower upper) = record { kind = BOUNDS; lower = lower; upper = unwrap_or upper NONE }
numbers_of (verdict.First count) = exactly FIRST count
