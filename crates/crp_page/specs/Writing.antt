-- What a sink got of a text that is written piece by piece.
use Rattle.std.specs.Prelude.{ℕ, List, Option, Result, MatchResult}
use Rattle.std.specs.Io.KnownBytes.{Appends}
use Rattle.crp_plan.specs.Devices.{AppendsFront, AppendsPart, Transfers}
use Rattle.crp_plan.specs.declared.transfer.WriteFault.{WriteFault}
use Rattle.crp_plan.specs.declared.transfer.WriteFault.TheVariants as fault

-- a sink: what it holds, its counts of failures and of interruptions, and how many of these its run has passed over
pub record SinkNow : Type 0 where
  pub holds : Option (List ℕ)
  pub failures : ℕ
  pub interrupted : Option ℕ
  pub passed : ℕ

abbrev pub sink_now : Option (List ℕ) → ℕ → Option ℕ → ℕ → SinkNow
sink_now holds failures interrupted passed = record { holds = holds; failures = failures; interrupted = interrupted; passed = passed }

-- so many of its calls failed, besides those that were tried again
abbrev pub Calls : ℕ → SinkNow → SinkNow → Type 0
Calls besides a b = Transfers besides a.passed b.passed a.failures b.failures a.interrupted b.interrupted

-- all of the text was written
pub record Writes (text : List ℕ) (a b : SinkNow) : Type 0 where
  pub got : Appends a.holds b.holds text
  pub calls : Calls 0 a b

-- what the sink got of a text that was not written for this fault, and how many calls failed: where memory ran out, a front of it and none;
-- where a write failed, a front that is not all of it and one
abbrev pub Got : WriteFault → Option (List ℕ) → Option (List ℕ) → List ℕ → Type 0
Got fault.Memory before after text = AppendsFront before after text
Got fault.Failed before after text = AppendsPart before after text

abbrev pub calls_of : WriteFault → ℕ
calls_of fault.Memory = 0
calls_of fault.Failed = 1

-- the text was not written for this fault
pub record Stops (text : List ℕ) (a b : SinkNow) (f : WriteFault) : Type 0 where
  pub got : Got f a.holds b.holds text
  pub calls : Calls (calls_of f) a b

-- the text was written, or as much of it as the fault says
abbrev pub Wrote : {T : Type 0} → Result T WriteFault → List ℕ → SinkNow → SinkNow → Type 0
Wrote r text a b = MatchResult r (λ _. Writes text a b) (Stops text a b)
