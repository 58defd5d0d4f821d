-- Why an audit stops whose certificates are read from a source, piece by piece.
use Rattle.std.specs.Prelude.{ℕ, ◌<◌, List, length, Option, ⊤}
use Rattle.crp_plan.specs.BayNames.{YardBay}
use Rattle.crp_plan.specs.Devices.{HasFailed}
use Rattle.crp_plan.specs.declared.transfer.ReadFault.{ReadFault}
use Rattle.crp_plan.specs.declared.transfer.ReadFault.TheVariants as read
use Rattle.crp_checker.specs.declared.unread.Unread.{Unread}
use Rattle.crp_checker.specs.declared.verdict.Verdict.{Verdict}
use Rattle.crp_checker.specs.Reading.{IsLeft, IsTooLong}
use Rattle.crp_audit.specs.declared.fault.AuditFault.{AuditFault}
use Rattle.crp_audit.specs.declared.fault.AuditFault.TheVariants as fault
use Rattle.crp_audit.specs.declared.fault.AuditStop.{AuditStop}
use Rattle.crp_audit.specs.declared.fault.AuditStop.TheVariants as stop
use Rattle.crp_audit.specs.Headline.{Handed}
use Rattle.crp_audit.specs.Faults.{ShowsFirst, IsAuditRefusal}

-- why an audit stops where certificates are not read
abbrev pub of_read : ReadFault → AuditStop
of_read read.Failed = stop.Failed
of_read read.TooLarge = stop.TooLarge
of_read read.Memory = stop.Fault fault.Memory

-- so many calls of the source fail besides those that are passed over
abbrev pub failures_of_stop : AuditStop → ℕ
failures_of_stop stop.Failed = 1
failures_of_stop s = 0

-- why the audit stops of what is handed in, of which at most so many bytes of certificates are read, with these counts of the source's failures before
-- and after: the first fault, behind what the bays before show; or, behind what bays show that are right, that a read has failed, or that there are more
-- bytes
abbrev pub IsAuditStop : Handed → ℕ → ℕ → ℕ → List (YardBay × Verdict) → AuditStop → Type 0
IsAuditStop h limit before after shown (stop.Fault f) = IsAuditRefusal h shown f
IsAuditStop h limit before after shown stop.Failed = HasFailed before after × ShowsFirst h shown
IsAuditStop h limit before after shown stop.TooLarge = (limit < length h.certificates) × ShowsFirst h shown

-- why an audit stops at a bay, where the source has this left and this was read of it and not taken: a fault of what may be left; or the source has
-- failed; or there are more bytes than may be read
abbrev pub StopsAt : Option (List ℕ) → Unread → (List ℕ → AuditFault → Type 0) → AuditStop → Type 0
StopsAt known u IsFault (stop.Fault f) = (left : List ℕ) × IsLeft known u left × IsFault left f
StopsAt known u IsFault stop.Failed = ⊤
StopsAt known u IsFault stop.TooLarge = IsTooLong known u
