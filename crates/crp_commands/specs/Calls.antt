-- A call of a command over a source and a sink: what it saw, what it wrote, and what each fault states.
use Rattle.std.specs.Prelude.{◌≡◌, ℕ, ◌+◌, ◌-◌, ◌<◌, ◌≤◌, List, length, Option, IfSome}
use Rattle.std.specs.Io.KnownBytes.{Appends, Keeps}
use Rattle.crp_plan.specs.Devices.{AppendsPart, HasFailed, most_interruptions}
use Rattle.crp_yard.specs.Reading.{IsTextOf}
use Rattle.crp_cert.specs.Faults.{IsFirstFault}
use Rattle.crp_report.specs.Runs.{failures_of_fault}
use Rattle.crp_jobs.specs.declared.outcome.ToolFault.{ToolFault}
use Rattle.crp_jobs.specs.declared.outcome.ToolFault.TheVariants as fault

-- these bytes, no more than the limit, are those that a source had, where it stated them
abbrev pub IsTextWithin : ℕ → Option (List ℕ) → List ℕ → Type 0
IsTextWithin limit known text = (length text ≤ limit) × IfSome known (λ xs. text ≡ xs)

-- what a call saw and left: the bytes that its source had, what its sink held before and holds after, and both counts of failures
-- before and after
pub record CallSeen : Type 0 where
  pub given : Option (List ℕ)
  pub held : Option (List ℕ)
  pub holds : Option (List ℕ)
  pub source_before : ℕ
  pub source_after : ℕ
  pub sink_before : ℕ
  pub sink_after : ℕ

-- so many calls of the source and the sink have failed in the call
abbrev pub call_failures : CallSeen → ℕ
call_failures s = (s.source_after - s.source_before) + (s.sink_after - s.sink_before)

-- so many failed calls a fault states: one where a read or a write has failed, in a run too, else none
abbrev pub failures_of_tool_fault : ToolFault → ℕ
failures_of_tool_fault fault.Read = 1
failures_of_tool_fault (fault.ReadOf which) = 1
failures_of_tool_fault fault.ReadSizes = 1
failures_of_tool_fault fault.ReadSecond = 1
failures_of_tool_fault fault.Write = 1
failures_of_tool_fault fault.WriteTable = 1
failures_of_tool_fault fault.WritePage = 1
failures_of_tool_fault (fault.Run f) = failures_of_fault f
failures_of_tool_fault f = 0

-- so many calls fail at most in a call that states this fault: those that are passed over, and the one that is stated
abbrev pub most_call_failures : ToolFault → ℕ
most_call_failures f = most_interruptions + failures_of_tool_fault f

-- the whole report of the bytes that the source had, which are said by `IsInput`, was written, and nothing else
abbrev pub WritesReport : (Option (List ℕ) → List ℕ → Type 0) → (List ℕ → List ℕ → Type 0) → CallSeen → Type 0
WritesReport IsInput IsReport s = (text : List ℕ) × (report : List ℕ) × IsInput s.given text × IsReport text report × Appends s.held s.holds report

-- the bytes that the source had, which are said by `IsInput`, are refused in this way, and nothing was written
abbrev pub RefusesText : (Option (List ℕ) → List ℕ → Type 0) → (List ℕ → ToolFault → Type 0) → CallSeen → ToolFault → Type 0
RefusesText IsInput IsRefused s f = Keeps s.held s.holds × ((text : List ℕ) × IsInput s.given text × IsRefused text f)

-- what a fault says of a call that writes the report of a head: that at most `limit` bytes begin with none, that its plan is refused, a read or a
-- write that has failed in this call, more bytes than the limit that begin with none, or lack of memory; only where a write failed a front of the
-- report may have been written, which is not all of it
abbrev pub CallFailsWith : ℕ → (List ℕ → List ℕ → Type 0) → (List ℕ → ToolFault → Type 0) → CallSeen → ToolFault → Type 0
CallFailsWith limit IsReport IsRefused s (fault.Cert f) = RefusesText (IsTextWithin limit) IsRefused s (fault.Cert f)
CallFailsWith limit IsReport IsRefused s (fault.Plan f) = RefusesText IsTextOf IsRefused s (fault.Plan f)
CallFailsWith limit IsReport IsRefused s fault.Read = Keeps s.held s.holds × HasFailed s.source_before s.source_after
CallFailsWith limit IsReport IsRefused s fault.Write = HasFailed s.sink_before s.sink_after
    × ((text : List ℕ) × (report : List ℕ) × IsTextOf s.given text × IsReport text report × AppendsPart s.held s.holds report)
CallFailsWith limit IsReport IsRefused s fault.TooLarge = Keeps s.held s.holds × IfSome s.given (λ xs. limit < length xs)
CallFailsWith limit IsReport IsRefused s fault.Memory = Keeps s.held s.holds
CallFailsWith limit IsReport IsRefused s f = ⊥

-- why no head was read from a source: its bytes begin with none, it has failed in this call, it has more bytes than the limit, or memory
-- is wanted
abbrev pub IsNoHead : ℕ → Option (List ℕ) → ℕ → ℕ → ToolFault → Type 0
IsNoHead limit given before after (fault.Cert f) = (text : List ℕ) × IsTextWithin limit given text × IsFirstFault text f
IsNoHead limit given before after fault.Read = HasFailed before after
IsNoHead limit given before after fault.TooLarge = IfSome given (λ xs. limit < length xs)
IsNoHead limit given before after fault.Memory = Unit {0}
IsNoHead limit given before after f = ⊥
