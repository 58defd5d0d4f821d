-- The lists of a job: the byte between their fields, and its list of sizes; and the job over a yard whose bays have other sizes.
use Rattle.std.specs.Prelude.{ℕ, List, Option, None, option_map}
use Rattle.crp_sizes.specs.Sizes.{YardSizes}
use Rattle.crp_report.specs.Chosen.{InputChosen}
use Rattle.crp_jobs.specs.declared.job.Job.{Job}
use Rattle.crp_jobs.specs.declared.job.Job.TheVariants as job

-- the byte between the fields of its lists: a comma, where it has none
abbrev pub separator_of : Job → ℕ
separator_of (job.OneFile file command stop) = 44
separator_of (job.Absent names settings) = names.separator
separator_of (job.Audit names settings) = names.separator
separator_of (job.Follow names settings) = names.separator
separator_of (job.Compare names settings) = names.separator
separator_of (job.Solve names settings quiet progress) = names.separator

-- the name of the list of sizes, if the job has one, and what its input means without that
abbrev pub list_named : Job → Option (List ℕ × InputChosen)
list_named (job.OneFile file command stop) = None
list_named (job.Absent names settings) = option_map (λ name. (name.now, settings)) names.sizes
list_named (job.Audit names settings) = option_map (λ name. (name.now, settings)) names.sizes
list_named (job.Follow names settings) = option_map (λ name. (name.now, settings)) names.sizes
list_named (job.Compare names settings) = option_map (λ name. (name.now, settings)) names.sizes
list_named (job.Solve names settings quiet progress) = option_map (λ name. (name.now, settings.input)) names.sizes

-- the same job, where the bays of the yard have these sizes
abbrev pub with_sizes : YardSizes → Job → Job
with_sizes sizes (job.OneFile file command stop) = job.OneFile file command stop
with_sizes sizes (job.Absent names settings) = job.Absent names (record settings { sizes = sizes })
with_sizes sizes (job.Audit names settings) = job.Audit names (record settings { sizes = sizes })
with_sizes sizes (job.Follow names settings) = job.Follow names (record settings { sizes = sizes })
with_sizes sizes (job.Compare names settings) = job.Compare names (record settings { sizes = sizes })
with_sizes sizes (job.Solve names settings quiet progress) = job.Solve names (record settings { input = record settings.input { sizes = sizes } }) quiet progress
