-- How a job prints what it writes.
use Rattle.std.specs.Prelude.{Bool, false}
use Rattle.crp_jobs.specs.declared.job.FileCommand.{FileCommand}
use Rattle.crp_jobs.specs.declared.job.FileCommand.TheVariants as command
use Rattle.crp_jobs.specs.declared.job.Job.{Job}
use Rattle.crp_jobs.specs.declared.job.Job.TheVariants as job

-- what a command writes is to be printed as JSON Lines
abbrev pub is_json_by : FileCommand → Bool
is_json_by command.Replay = false
is_json_by (command.Bound chains json) = json
is_json_by (command.Check any_size workers json) = json
is_json_by (command.Prove search) = false
is_json_by command.Rewrite = false

-- what a job writes is
abbrev pub is_json : Job → Bool
is_json (job.OneFile file command stop) = is_json_by command
is_json (job.Absent names settings) = false
is_json (job.Audit names settings) = names.json
is_json (job.Follow names settings) = false
is_json (job.Compare names settings) = false
is_json (job.Solve names settings quiet progress) = names.json
