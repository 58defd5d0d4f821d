-- What a closer claims.
use Rattle.std.specs.Prelude.{◌≡◌, ◌<◌, ◌≤◌, ℕ, zero, suc, Bool, true, false}
use Rattle.crp_thinning.specs.declared.claims.Unclosed.{Unclosed}
use Rattle.crp_thinning.specs.declared.claims.Unclosed.TheVariants.{Open, Refused, Memory}

-- so many claims, one after the other, all of which are granted; `claims` says what one claim does
abbrev pub Granted : {X : Type 0} → (X → Bool → X → Type 0) → ℕ → X → X → Type 0
Granted {X} claims zero old new = new ≡ old
Granted {X} claims (suc count) old new = (now : X) × claims old true now × Granted claims count now new

-- claims, one after the other, by which a position was not closed: at most so many are granted, and behind them one is refused where that is why
abbrev pub Claimed : {X : Type 0} → (X → Bool → X → Type 0) → ℕ → Unclosed → X → X → Type 0
Claimed {X} claims most Open old new = (count : ℕ) × (count ≤ most) × Granted claims count old new
Claimed {X} claims most Refused old new = (count : ℕ) × (count < most) × ((now : X) × Granted claims count old now × claims now false new)
Claimed {X} claims most Memory old new = (count : ℕ) × (count ≤ most) × Granted claims count old new
