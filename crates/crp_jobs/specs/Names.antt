-- The names of the files and streams of a job, by what they are to it.
use Rattle.std.specs.Prelude.{ℕ, List, Option, Some, None, option_map, codes, if◌then◌else◌}
use Rattle.std.specs.Str.{bytes_eq}
use Rattle.crp_files.specs.declared.roles.Role.{Role}
use Rattle.crp_files.specs.declared.roles.Role.TheVariants as role
use Rattle.crp_jobs.specs.declared.job.AfterFile.{AfterFile}
use Rattle.crp_jobs.specs.declared.job.FollowFiles.{FollowFiles}
use Rattle.crp_jobs.specs.declared.job.RunFiles.{RunFiles}

-- of a run over a yard: it reads the yard list, the list of sizes and the message, and writes its report to the standard output and notes to the standard error
abbrev pub named_in_run : RunFiles → Role → Option (List ℕ)
named_in_run names role.YardList = Some names.yard.now
named_in_run names role.Sizes = option_map (λ name. name.now) names.sizes
named_in_run names role.Message = Some names.movins.now
named_in_run names role.Certificates = option_map (λ name. name.now) names.cert
named_in_run names role.YardAfter = option_map (λ name. name.now) names.after
named_in_run names role.StandardOutput = Some (codes "/dev/stdout")
named_in_run names role.StandardError = Some (codes "/dev/stderr")
named_in_run names r = None

-- a report that is followed is a file, unless it is named `-`
abbrev pub report_name : List ℕ → Option (List ℕ)
report_name name = if bytes_eq name (codes "-") then None else Some name

-- and then it is what stands behind the standard input
abbrev pub input_name : List ℕ → Option (List ℕ)
input_name name = if bytes_eq name (codes "-") then Some (codes "/dev/stdin") else None

-- the name of what gets the yard after the moves of a report
abbrev pub after_name : Option AfterFile → Option (List ℕ)
after_name after = option_map (λ file. file.name.now) after

-- where a report is followed: the table goes to the standard output, and what is wrong is written to the standard error
abbrev pub named_in_follow : FollowFiles → Role → Option (List ℕ)
named_in_follow names role.YardList = Some names.yard.now
named_in_follow names role.Sizes = option_map (λ name. name.now) names.sizes
named_in_follow names role.Report = report_name names.report.now
named_in_follow names role.Message = option_map (λ name. name.now) names.movins
named_in_follow names role.Page = option_map (λ name. name.now) names.page
named_in_follow names role.YardAfter = after_name names.after
named_in_follow names role.StandardInput = input_name names.report.now
named_in_follow names role.StandardOutput = Some (codes "/dev/stdout")
named_in_follow names role.StandardError = Some (codes "/dev/stderr")
named_in_follow names r = None
