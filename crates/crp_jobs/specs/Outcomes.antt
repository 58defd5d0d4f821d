-- How a job states what went wrong in a layer below, and the exit status that follows.
use Rattle.std.specs.Prelude.{ℕ, Result, Ok, Err}
use Rattle.crp_plan.specs.declared.transfer.ReadFault.{ReadFault}
use Rattle.crp_plan.specs.declared.transfer.ReadFault.TheVariants as reading
use Rattle.crp_cert.specs.declared.fault.CertFault.{CertFault}
use Rattle.crp_cert.specs.declared.fault.CertFault.TheVariants as cert
use Rattle.crp_audit.specs.declared.fault.AuditFault.{AuditFault}
use Rattle.crp_audit.specs.declared.fault.AuditFault.TheVariants as audited
use Rattle.crp_follow.specs.declared.fault.FollowFault.{FollowFault}
use Rattle.crp_follow.specs.declared.fault.FollowFault.TheVariants as followed
use Rattle.crp_loading.specs.declared.fault.LoadingFault.{LoadingFault}
use Rattle.crp_loading.specs.declared.fault.LoadingFault.TheVariants as loading
use Rattle.crp_sizes.specs.declared.fault.SizesFault.{SizesFault}
use Rattle.crp_sizes.specs.declared.fault.SizesFault.TheVariants as sizes
use Rattle.crp_report.specs.declared.fault.Fault.TheVariants as run
use Rattle.crp_report.specs.declared.status.Status.{Status}
use Rattle.crp_report.specs.declared.status.Status.TheVariants as status
use Rattle.crp_jobs.specs.declared.outcome.ToolFault.{ToolFault}
use Rattle.crp_jobs.specs.declared.outcome.ToolFault.TheVariants as fault

-- how a job states what went wrong in a layer below
abbrev pub fault_of_read : ReadFault → ToolFault
fault_of_read reading.Failed = fault.Read
fault_of_read reading.TooLarge = fault.TooLarge
fault_of_read reading.Memory = fault.Memory

abbrev pub fault_of_cert : CertFault → ToolFault
fault_of_cert cert.Memory = fault.Memory
fault_of_cert f = fault.Cert f

abbrev pub fault_of_audit : AuditFault → ToolFault
fault_of_audit audited.Memory = fault.Memory
fault_of_audit f = fault.Audited f

abbrev pub fault_of_follow : FollowFault → ToolFault
fault_of_follow followed.Memory = fault.Memory
fault_of_follow f = fault.Followed f

abbrev pub fault_of_loading : LoadingFault → ToolFault
fault_of_loading loading.Memory = fault.Memory
fault_of_loading f = fault.Loaded f

abbrev pub fault_of_sizes : SizesFault → ToolFault
fault_of_sizes sizes.Memory = fault.Memory
fault_of_sizes sizes.Read = fault.ReadSizes
fault_of_sizes f = fault.Sizes f

-- the exit status of the program: 0 decided, 1 a budget ended, 2 two names of one file, 3 input refused, 4 lack of memory, 5 a read or write fault, 6 a certificate,
-- head or plan refused, or a report with its certificates
abbrev pub exit_code : Result Status ToolFault → ℕ
exit_code (Ok status.Decided) = 0
exit_code (Ok status.Budget) = 1
exit_code (Ok status.Memory) = 4
exit_code (Err (fault.OneFile s)) = 2
exit_code (Err fault.TooLarge) = 3
exit_code (Err (fault.TooLargeOf which)) = 3
exit_code (Err (fault.Followed f)) = 3
exit_code (Err (fault.Second f)) = 3
exit_code (Err (fault.Loaded f)) = 3
exit_code (Err (fault.Unstated u)) = 3
exit_code (Err (fault.Sizes f)) = 3
exit_code (Err fault.Memory) = 4
exit_code (Err fault.Read) = 5
exit_code (Err (fault.ReadOf which)) = 5
exit_code (Err fault.ReadSecond) = 5
exit_code (Err fault.ReadSizes) = 5
exit_code (Err fault.Write) = 5
exit_code (Err fault.WriteTable) = 5
exit_code (Err fault.WritePage) = 5
exit_code (Err (fault.Run (run.Yard f))) = 3
exit_code (Err (fault.Run (run.Interchange f))) = 3
exit_code (Err (fault.Run (run.Message f))) = 3
exit_code (Err (fault.Run (run.Read input))) = 5
exit_code (Err (fault.Run (run.Write output))) = 5
exit_code (Err (fault.Run run.Memory)) = 4
exit_code (Err (fault.Cert f)) = 6
exit_code (Err (fault.Plan f)) = 6
exit_code (Err (fault.Checked number why)) = 6
exit_code (Err (fault.Audited f)) = 6
