-- The third line of a fault: of which file of the job it is, and what it says.
use Rattle.std.specs.Prelude.{ℕ, List, IfSome}
use Rattle.crp_report.specs.declared.fault.Fault.TheVariants as run
use Rattle.crp_files.specs.Known.{KnownFiles}
use Rattle.crp_jobs.specs.declared.job.Job.{Job}
use Rattle.crp_jobs.specs.declared.outcome.ToolFault.{ToolFault}
use Rattle.crp_jobs.specs.declared.outcome.ToolFault.TheVariants as fault
use Rattle.crp_jobs.specs.Placed.{message_named, report_named, second_named, sizes_named, yard_named}
use Rattle.crp_jobs.specs.CertificateLines.{certificates_named, IsCertificateLine}
use Rattle.crp_jobs.specs.ListLines.{IsSizesLine, IsYardLine}
use Rattle.crp_jobs.specs.MessageLines.{IsInterchangeLine, IsMessageLine}
use Rattle.crp_jobs.specs.Sized.{separator_of}
use Rattle.crp_jobs.specs.ReportFaults.{IsAuditLine, IsFollowLine, IsLoadingLine}

-- the line on the fault of an input, in the file of the job of which that is said
abbrev pub IsPlacedLine : KnownFiles → Job → ToolFault → List ℕ → Type 0
IsPlacedLine known j (fault.Run (run.Yard f)) line = IfSome (yard_named j) (λ name. IsYardLine known j (known.given name) f line)
IsPlacedLine known j (fault.Sizes f) line = IfSome (sizes_named j) (λ name. IsSizesLine (separator_of j) (known.given name) f line)
IsPlacedLine known j (fault.Run (run.Interchange f)) line = IfSome (message_named j) (λ name. IsInterchangeLine (known.given name) f line)
IsPlacedLine known j (fault.Run (run.Message f)) line = IfSome (message_named j) (λ name. IsMessageLine (known.given name) f line)
IsPlacedLine known j (fault.Checked n why) line = IfSome (certificates_named j) (λ name. IsCertificateLine (known.given name) n line)
IsPlacedLine known j (fault.Followed f) line = IfSome (report_named j) (λ name. IsFollowLine known j (known.given name) f line)
IsPlacedLine known j (fault.Second f) line = IfSome (second_named j) (λ name. IsFollowLine known j (known.given name) f line)
IsPlacedLine known j (fault.Loaded f) line = IfSome (report_named j) (λ name. IsLoadingLine (known.given name) f line)
IsPlacedLine known j (fault.Audited f) line = IfSome (report_named j) (λ name. IsAuditLine known j (known.given name) f line)
IsPlacedLine known j f line = Unit {0}
