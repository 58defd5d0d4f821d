-- What the user is to look at after a fault: how the line of advice begins, where a read or a write failed or two files are one.
use Rattle.std.specs.Prelude.{ℕ, Bool, ◌&&◌, ◌++◌, nat_le, nat_lt, List, length, IsTrue, Option, Some, None, option_map, if◌then◌else◌, codes}
use Rattle.std.specs.List.{list_all}
use Rattle.std.specs.Str.{bytes_eq}
use Rattle.crp_report.specs.declared.fault.Input.TheVariants as input
use Rattle.crp_report.specs.declared.fault.Output.TheVariants as output
use Rattle.crp_report.specs.declared.fault.Fault.{Fault}
use Rattle.crp_report.specs.declared.fault.Fault.TheVariants as run
use Rattle.crp_jobs.specs.declared.job.Job.{Job}
use Rattle.crp_jobs.specs.declared.job.Job.TheVariants as job
use Rattle.crp_jobs.specs.declared.job.RunFiles.{RunFiles}
use Rattle.crp_jobs.specs.declared.job.AbsentFiles.{AbsentFiles}
use Rattle.crp_jobs.specs.declared.job.AuditFiles.{AuditFiles}
use Rattle.crp_jobs.specs.declared.job.CompareFiles.{CompareFiles}
use Rattle.crp_jobs.specs.declared.job.FollowFiles.{FollowFiles}
use Rattle.crp_jobs.specs.declared.outcome.Statement.{Statement}
use Rattle.crp_jobs.specs.declared.outcome.Statement.TheVariants as statement
use Rattle.crp_jobs.specs.declared.outcome.ToolFault.{ToolFault}
use Rattle.crp_jobs.specs.declared.outcome.ToolFault.TheVariants as fault
use Rattle.crp_files.specs.declared.roles.Role.{Role}
use Rattle.crp_files.specs.declared.roles.Role.TheVariants as role
use Rattle.crp_files.specs.declared.roles.Shared.{Shared}
use Rattle.crp_jobs.specs.Names.{after_name, named_in_follow, named_in_run}
use Rattle.crp_jobs.specs.declared.failed.Place.{Place}
use Rattle.crp_jobs.specs.declared.failed.Place.TheVariants as place

-- a printable ASCII character
abbrev pub is_printable : ℕ → Bool
is_printable b = nat_le 32 b && nat_lt b 127

-- one line of plain text: printable ASCII characters, at least one
abbrev pub IsPlainLine : List ℕ → Type 0
IsPlainLine text = IsTrue (nat_lt 0 (length text)) × IsTrue (list_all is_printable text)

-- a file, in words
abbrev pub file_words : List ℕ → List ℕ
file_words name = codes "look at the file " ++ name

-- what a job over one file reads, and the report that one follows, in words: a file named `-` is the standard input
abbrev pub source_words : List ℕ → List ℕ
source_words name = if bytes_eq name (codes "-") then codes "look at the standard input" else file_words name

-- two names of one file, and a name and a stream
abbrev pub names_words : List ℕ → List ℕ → List ℕ
names_words name other = codes "the names " ++ (name ++ (codes " and " ++ (other ++ codes " are of one file")))

abbrev pub name_and_stream_words : List ℕ → List ℕ → List ℕ
name_and_stream_words name stream = codes "the name " ++ (name ++ (codes " and " ++ (stream ++ codes " are of one file")))

-- a place, in words
abbrev pub place_words : Place → List ℕ
place_words (place.File name) = file_words name.now
place_words place.StandardInput = codes "look at the standard input"
place_words place.StandardOutput = codes "look at the standard output"
place_words (place.Names name other) = names_words name.now other.now
place_words (place.NameAndStream name stream) = name_and_stream_words name.now stream.now

-- a standard stream, in words
abbrev pub stream_words : Role → Option (List ℕ)
stream_words role.StandardInput = Some (codes "the standard input")
stream_words role.StandardOutput = Some (codes "the standard output")
stream_words role.StandardError = Some (codes "the standard error")
stream_words r = None

-- which files are one, by the names that the job has for them
abbrev pub one_file_words : Option (List ℕ) → Option (List ℕ) → Option (List ℕ) → Option (List ℕ)
one_file_words None stream other = None
one_file_words (Some name) (Some stream) other = Some (name_and_stream_words name stream)
one_file_words (Some name) None other = option_map (names_words name) other

abbrev pub shared_words : (Role → Option (List ℕ)) → Shared → Option (List ℕ)
shared_words named s = one_file_words (named s.written) (stream_words s.other) (named s.other)

-- what a job over this file could not read or write, in words, where the fault is of that kind; a report goes to the standard output
abbrev pub failed_in_file : List ℕ → ToolFault → Option (List ℕ)
failed_in_file name fault.Read = Some (source_words name)
failed_in_file name (fault.ReadOf which) = Some (source_words name)
failed_in_file name fault.Write = Some (codes "look at the standard output")
failed_in_file name f = None

-- the same of a run over these files: the yard list, the message, and the two that are written if they are wanted
abbrev pub failed_in_run : RunFiles → Fault → Option (List ℕ)
failed_in_run names (run.Read input.Yard) = Some (file_words names.yard.now)
failed_in_run names (run.Read input.Movins) = Some (file_words names.movins.now)
failed_in_run names (run.Write output.Report) = Some (codes "look at the standard output")
failed_in_run names (run.Write output.Certificates) = option_map (λ name. file_words name.now) names.cert
failed_in_run names (run.Write output.YardAfter) = option_map (λ name. file_words name.now) names.after
failed_in_run names f = None

-- the words for a statement that is audited
abbrev pub statement_words : Statement → List ℕ
statement_words statement.Report = codes "the report"
statement_words statement.Certificates = codes "the certificates"

-- the same of an audit of these files; what it shows goes to the standard output
abbrev pub failed_in_audit : AuditFiles → ToolFault → Option (List ℕ)
failed_in_audit names (fault.Run (run.Read input.Yard)) = Some (file_words names.yard.now)
failed_in_audit names (fault.Run (run.Read input.Movins)) = Some (file_words names.movins.now)
failed_in_audit names (fault.ReadOf statement.Report) = Some (file_words names.report.now)
failed_in_audit names (fault.ReadOf statement.Certificates) = Some (file_words names.certificates.now)
failed_in_audit names fault.ReadSizes = option_map (λ name. file_words name.now) names.sizes
failed_in_audit names fault.Write = Some (codes "look at the standard output")
failed_in_audit names f = None

-- the same of a list of the absent containers of these files, which goes to the standard output
abbrev pub failed_in_absent : AbsentFiles → ToolFault → Option (List ℕ)
failed_in_absent names (fault.Run (run.Read input.Yard)) = Some (file_words names.yard.now)
failed_in_absent names (fault.Run (run.Read input.Movins)) = Some (file_words names.movins.now)
failed_in_absent names fault.ReadSizes = option_map (λ name. file_words name.now) names.sizes
failed_in_absent names fault.Write = Some (codes "look at the standard output")
failed_in_absent names f = None

-- the same where a report of these files is followed: the page and the yard after, if they are wanted, go to their files, and the table to the standard output
abbrev pub failed_in_follow : FollowFiles → ToolFault → Option (List ℕ)
failed_in_follow names (fault.Run (run.Read input.Yard)) = Some (file_words names.yard.now)
failed_in_follow names (fault.Run (run.Read input.Movins)) = option_map (λ name. file_words name.now) names.movins
failed_in_follow names (fault.Run (run.Write output.YardAfter)) = option_map file_words (after_name names.after)
failed_in_follow names (fault.ReadOf statement.Report) = Some (source_words names.report.now)
failed_in_follow names fault.ReadSizes = option_map (λ name. file_words name.now) names.sizes
failed_in_follow names fault.WriteTable = Some (codes "look at the standard output")
failed_in_follow names fault.WritePage = option_map (λ name. file_words name.now) names.page
failed_in_follow names f = None

-- the same where two reports of these files are compared: the table goes to the standard output
abbrev pub failed_in_compare : CompareFiles → ToolFault → Option (List ℕ)
failed_in_compare names (fault.Run (run.Read input.Yard)) = Some (file_words names.yard.now)
failed_in_compare names (fault.ReadOf statement.Report) = Some (source_words names.report.now)
failed_in_compare names fault.ReadSecond = Some (source_words names.second.now)
failed_in_compare names fault.ReadSizes = option_map (λ name. file_words name.now) names.sizes
failed_in_compare names fault.WriteTable = Some (codes "look at the standard output")
failed_in_compare names f = None

-- what the job could not read or write, or which of its files are one, in words, where the fault is of that kind
abbrev pub failed_words : Job → ToolFault → Option (List ℕ)
failed_words (job.OneFile file command stop) f = failed_in_file file.now f
failed_words (job.Absent names settings) f = failed_in_absent names f
failed_words (job.Audit names settings) f = failed_in_audit names f
failed_words (job.Follow names settings) (fault.OneFile s) = shared_words (named_in_follow names) s
failed_words (job.Follow names settings) f = failed_in_follow names f
failed_words (job.Compare names settings) f = failed_in_compare names f
failed_words (job.Solve names settings quiet progress) (fault.Run f) = failed_in_run names f
failed_words (job.Solve names settings quiet progress) (fault.OneFile s) = shared_words (named_in_run names) s
failed_words (job.Solve names settings quiet progress) fault.ReadSizes = option_map (λ name. file_words name.now) names.sizes
failed_words (job.Solve names settings quiet progress) f = None
