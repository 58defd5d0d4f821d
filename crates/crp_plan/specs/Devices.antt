-- Sources and sinks of bytes: the counts of their failures and interruptions, and the front and the part of a text that a sink took.
use Rattle.std.specs.Prelude.{◌≡◌, ℕ, ◌+◌, ◌-◌, ◌^◌, ◌<◌, ◌≤◌, ◌⊎◌, min, List, length, take, Option, Some, None, Result, MatchResult, ⊤}
use Rattle.std.specs.Io.KnownBytes.{Appends}
use Rattle.crp_plan.specs.declared.device.Failure.{Failure}
use Rattle.crp_plan.specs.declared.device.Failure.TheVariants.{Interrupted, Failed}
use Rattle.crp_plan.specs.declared.transfer.ReadFault.{ReadFault}
use Rattle.crp_plan.specs.declared.transfer.ReadFault.TheVariants as read

-- The count has grown by so many. It stops at the largest u64.
abbrev pub CountsMore : ℕ → ℕ → ℕ → Type 0
CountsMore n old new = new ≡ old + min n (2 ^ 64 - 1 - old)

-- The count has grown by one.
abbrev pub CountsOne : ℕ → ℕ → Type 0
CountsOne = CountsMore 1

-- A source counts each Err.
abbrev pub CountsRead : {E : Type 0} → ℕ → ℕ → Result ℕ E → Type 0
CountsRead old new r = MatchResult r (λ _. new ≡ old) (λ _. CountsOne old new)

-- A sink counts an answer of 0 to a piece that is not empty.
abbrev pub CountsTaken : ℕ → ℕ → ℕ → List ℕ → Type 0
CountsTaken old new n piece = (0 < n → new ≡ old) × (length piece ≡ 0 → new ≡ old)
    × (n ≡ 0 → 0 < length piece → CountsOne old new)

-- A sink counts that answer, and each Err.
abbrev pub CountsWrite : {E : Type 0} → ℕ → ℕ → Result ℕ E → List ℕ → Type 0
CountsWrite old new r piece =
    MatchResult r (λ n. CountsTaken old new n piece) (λ _. CountsOne old new)

-- The count has grown, where it was not at its end.
abbrev pub HasFailed : ℕ → ℕ → Type 0
HasFailed old new = old < 2 ^ 64 - 1 → old < new

-- Known bytes grow by a front of the text.
abbrev pub AppendsFront : Option (List ℕ) → Option (List ℕ) → List ℕ → Type 0
AppendsFront old new text = (n : ℕ) × Appends old new (take n text)

-- Known bytes grow by a front of the text that is not all of it.
abbrev pub AppendsPart : Option (List ℕ) → Option (List ℕ) → List ℕ → Type 0
AppendsPart old new text = (n : ℕ) × (n < length text) × Appends old new (take n text)

-- A run passes over at most so many interruptions.
abbrev pub most_interruptions : ℕ
most_interruptions = 1000

-- Where a device states how many of its calls were interrupted, there are so many more. The count stops at the largest u64.
abbrev pub InterruptedMore : ℕ → Option ℕ → Option ℕ → Type 0
InterruptedMore n None new = ⊤
InterruptedMore n (Some before) None = ⊥
InterruptedMore n (Some before) (Some after) = CountsMore n before after

-- A failure that is an interruption adds one, and no other answer does.
abbrev pub interruptions_of : Failure → ℕ
interruptions_of Interrupted = 1
interruptions_of Failed = 0

abbrev pub CountsInterruption : Option ℕ → Option ℕ → Result ℕ Failure → Type 0
CountsInterruption old new r =
    MatchResult r (λ _. InterruptedMore 0 old new) (λ failure. InterruptedMore (interruptions_of failure) old new)

-- A transfer, in a run that had passed over so many interruptions before it, and after it. Each between was tried again, and so many calls failed besides:
-- none where it is done, one where it gives up. That one was interrupted too, if at all, only where the run had passed over as many as it may.
pub record Transfers (besides before after failures new_failures : ℕ) (interrupted new_interrupted : Option ℕ) : Type 0 where
  pub rises : before ≤ after
  pub few : after ≤ most_interruptions
  pub failed : CountsMore (after - before + besides) failures new_failures
  pub tried_again : InterruptedMore (after - before) interrupted new_interrupted
      ⊎ ((besides ≡ 1) × (after ≡ most_interruptions) × InterruptedMore (after - before + 1) interrupted new_interrupted)

-- The same, where the transfer counts its interruptions by itself.
abbrev pub TransfersAlone : ℕ → ℕ → ℕ → Option ℕ → Option ℕ → Type 0
TransfersAlone besides failures new_failures interrupted new_interrupted =
    (passed : ℕ) × Transfers besides 0 passed failures new_failures interrupted new_interrupted

-- How many calls fail besides, where a text is not read: one where the source failed.
abbrev pub failures_of_read : ReadFault → ℕ
failures_of_read read.Failed = 1
failures_of_read f = 0

-- It passes over a failure that is an interruption, where fewer than that came before it.
abbrev pub IsPassedOver : Failure → ℕ → Type 0
IsPassedOver failure before = (failure ≡ Interrupted) × (before < most_interruptions)
