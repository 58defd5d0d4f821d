-- What `rewrite` writes: a report whose moves may have been edited, with lines that count its moves; and why it writes none.
use Rattle.std.specs.Prelude.{ℕ, ◌<◌, List, length, IfSome, Option}
use Rattle.crp_plan.specs.Devices.{AppendsPart, HasFailed}
use Rattle.std.specs.Io.KnownBytes.{Keeps}
use Rattle.crp_yard.specs.Reading.{IsTextOf}
use Rattle.crp_follow.specs.declared.fault.FollowFault.{FollowFault}
use Rattle.crp_follow.specs.declared.fault.FollowFault.TheVariants as followed
use Rattle.crp_follow.specs.Stated.{most_bytes}
use Rattle.crp_follow.specs.Rewritten.{IsRewritten, IsEditedFault}
use Rattle.crp_jobs.specs.declared.outcome.Statement.TheVariants as statement
use Rattle.crp_jobs.specs.declared.outcome.ToolFault.{ToolFault}
use Rattle.crp_jobs.specs.declared.outcome.ToolFault.TheVariants as fault
use Rattle.crp_commands.specs.Calls.{CallSeen}

-- the report that a source had is refused in this way: it has too many bytes, or else its text has this first fault
abbrev pub IsRefusedReport : Option (List ℕ) → FollowFault → Type 0
IsRefusedReport given followed.TooLong = IfSome given (λ xs. most_bytes < length xs)
IsRefusedReport given f = (text : List ℕ) × IsTextOf given text × IsEditedFault text f

-- what a fault says: a report that is refused, a read or a write that has failed in this call, or lack of memory; only where a write failed a front of the
-- report may have been written, which is not all of it
abbrev pub RewriteFailsWith : CallSeen → ToolFault → Type 0
RewriteFailsWith s (fault.Followed f) = Keeps s.held s.holds × IsRefusedReport s.given f
RewriteFailsWith s (fault.ReadOf statement.Report) = Keeps s.held s.holds × HasFailed s.source_before s.source_after
RewriteFailsWith s fault.Write = HasFailed s.sink_before s.sink_after
    × ((text : List ℕ) × (report : List ℕ) × IsTextOf s.given text × IsRewritten text report × AppendsPart s.held s.holds report)
RewriteFailsWith s fault.Memory = Keeps s.held s.holds
RewriteFailsWith s f = ⊥
