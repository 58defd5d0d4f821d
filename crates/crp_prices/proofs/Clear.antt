-- What the proofs need of a position: no rank stands in two places, and those before `next` have left. Ranks may be missing.
use Rattle.std.proofs.Common.{◌≡◌, ℕ, ◌<◌, ◌≤◌}
use Rattle.crp_plan.specs.Rows.{occurrences}
use Rattle.crp_plan.specs.Bay.{Position, IsSound}

pub record IsClear (s : Position) : Type 0 where
  pub once : (x : ℕ) → occurrences x s.stacks ≤ 1
  pub gone : (x : ℕ) → x < s.next → occurrences x s.stacks ≡ 0

pub clear : (s : Position) → IsSound s → IsClear s
clear s sound = record { once = sound.once; gone = sound.gone }
