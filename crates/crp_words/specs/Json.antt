-- Whether words ask for JSON Lines, and of what.
use Rattle.std.specs.Prelude.{◌≡◌, if◌then◌else◌, ℕ, List, Option, Some, None}
use Rattle.clap.specs.Words.{Text}
use Rattle.crp_jobs.specs.declared.job.FileCommand.{FileCommand}
use Rattle.crp_jobs.specs.declared.job.FileCommand.TheVariants as command
use Rattle.crp_jobs.specs.declared.job.Job.{Job}
use Rattle.crp_jobs.specs.declared.job.Job.TheVariants as job
use Rattle.crp_jobs.specs.Printed.{is_json}
use Rattle.crp_json.specs.declared.entry.Printed.{Printed}
use Rattle.crp_json.specs.declared.entry.Printed.TheVariants as printed
use Rattle.crp_words.specs.Words.{WordsAsk}

-- what a command over one file prints where it is asked for JSON Lines
abbrev pub printed_by_file : FileCommand → Printed
printed_by_file command.Replay = printed.Checks
printed_by_file (command.Bound chains json) = printed.Bounds
printed_by_file (command.Check any_size workers json) = printed.Checks
printed_by_file (command.Prove search) = printed.Checks
printed_by_file command.Rewrite = printed.Checks

-- what a job prints where it is
abbrev pub printed_by : Job → Printed
printed_by (job.OneFile file c stop) = printed_by_file c
printed_by (job.Absent names settings) = printed.Report
printed_by (job.Audit names settings) = printed.Checks
printed_by (job.Follow names settings) = printed.Report
printed_by (job.Compare names settings) = printed.Report
printed_by (job.Solve names settings quiet progress) = printed.Report

-- the words ask for a job that prints this, and this is the line, where it is to be printed as JSON Lines, and else none
abbrev pub IsJsonHead : List Text → List ℕ → Printed → Option (List ℕ) → Type 0
IsJsonHead words line p head = (j : Job) × WordsAsk words j × (p ≡ printed_by j) × (head ≡ (if is_json j then Some line else None))
