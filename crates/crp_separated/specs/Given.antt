-- What a source gives of the bytes of another.
use Rattle.std.specs.Prelude.{◌≡◌, ℕ, ◌++◌, Bool, List, Option, Result, MatchResult, option_map, if◌then◌else◌}
use Rattle.csv.specs.Reading.{strip_bom}
use Rattle.crp_plan.specs.declared.device.Failure.{Failure}
use Rattle.crp_plan.specs.Devices.{CountsOne, InterruptedMore, interruptions_of}
use Rattle.crp_separated.specs.declared.places.Place.{Place}
use Rattle.crp_separated.specs.Separators.{translated}

-- the most bytes that are ready to be given
abbrev pub most_ready : ℕ
most_ready = 4096

-- the bytes of the front that are not given yet, and those behind them; until the front was looked at, without a byte order mark
abbrev pub unmarked : Bool → List ℕ → Option (List ℕ) → Option (List ℕ)
unmarked looked front known = option_map (λ bytes. if looked then front ++ bytes else strip_bom (front ++ bytes)) known

-- the bytes that are ready, and then what stands for those behind them
abbrev pub seen : ℕ → ℕ → Place → List ℕ → Option (List ℕ) → Option (List ℕ)
seen from to place ready known = option_map (λ bytes. ready ++ translated from to place bytes) known

-- a step counts as the one call of the other source counts that has failed, or none
abbrev pub CountsStep : {T : Type 0} → ℕ → ℕ → Result T Failure → Type 0
CountsStep old new r = MatchResult r (λ _. new ≡ old) (λ _. CountsOne old new)

abbrev pub InterruptsStep : {T : Type 0} → Option ℕ → Option ℕ → Result T Failure → Type 0
InterruptsStep old new r = MatchResult r (λ _. InterruptedMore 0 old new) (λ failure. InterruptedMore (interruptions_of failure) old new)
