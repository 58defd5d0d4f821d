-- What a job shows on the sink of its notes.
use Rattle.std.specs.Prelude.{◌⊎◌, ◌&&◌, ℕ, Bool, true, false, not, is_some, List, [], ◌∷◌, codes}
use Rattle.crp_plan.specs.BayNames.{YardBay}
use Rattle.crp_plan.specs.Devices.{HasFailed}
use Rattle.crp_checker.specs.declared.verdict.Verdict.{Verdict}
use Rattle.crp_report.specs.Runs.{SinkSeen, Gets, GetsPart}
use Rattle.crp_report.specs.Watching.{ShowsMore}
use Rattle.crp_jobs.specs.declared.job.FileCommand.{FileCommand}
use Rattle.crp_jobs.specs.declared.job.FileCommand.TheVariants as command
use Rattle.crp_jobs.specs.declared.job.Job.{Job}
use Rattle.crp_jobs.specs.declared.job.Job.TheVariants as job
use Rattle.crp_commands.specs.Check.{verdict_lines}
use Rattle.crp_jobs.specs.Opened.{IsLeftAlone}

-- the sink got the text, or where a write to it has failed a front of it that is not all of it, and nothing else
abbrev pub GetsLines : SinkSeen → List ℕ → Type 0
GetsLines s text = Gets s text ⊎ (GetsPart s text × HasFailed s.before s.after)

-- the note on a file that holds no certificate
abbrev pub empty_note : List ℕ
empty_note = codes "crp: note: the file holds no certificate\n"

-- where no certificate shows anything, the sink got that note, and else it was left alone
abbrev pub TellsOfNone : List (YardBay × Verdict) → SinkSeen → Type 0
TellsOfNone [] s = GetsLines s empty_note
TellsOfNone (first ∷ rest) s = IsLeftAlone s

-- one sink got the lines of some certificates, and the other that note exactly where there are none
abbrev pub TellsWhetherEmpty : SinkSeen → SinkSeen → Type 0
TellsWhetherEmpty lines s = (stated : List (YardBay × Verdict)) × Gets lines (verdict_lines stated) × TellsOfNone stated s

-- a run that is quiet leaves the sink alone, and another may show something
abbrev pub IsNotedBy : Bool → SinkSeen → Type 0
IsNotedBy true s = IsLeftAlone s
IsNotedBy false s = ShowsMore s.held s.holds

-- a check leaves the sink alone, or shows that the file holds no certificate; a report that is written anew may show something; another command over one
-- file leaves it alone
abbrev pub IsNotedIn : FileCommand → SinkSeen → Type 0
IsNotedIn (command.Check any_size workers json) s = IsLeftAlone s ⊎ GetsLines s empty_note
IsNotedIn command.Replay s = IsLeftAlone s
IsNotedIn (command.Bound chains json) s = IsLeftAlone s
IsNotedIn (command.Prove search) s = IsLeftAlone s
IsNotedIn command.Rewrite s = ShowsMore s.held s.holds

-- a list of absent containers leaves it alone, and so do an audit or a comparison of reports that may not end early, and what follows one without a message
abbrev pub IsNoted : Job → SinkSeen → Type 0
IsNoted (job.OneFile file command stop) s = IsNotedIn command s
IsNoted (job.Absent names settings) s = IsLeftAlone s
IsNoted (job.Audit names settings) s = IsNotedBy (not names.partial) s
IsNoted (job.Follow names settings) s = IsNotedBy (not names.partial && not (is_some names.movins)) s
IsNoted (job.Compare names settings) s = IsNotedBy (not names.partial) s
IsNoted (job.Solve names settings quiet progress) s = IsNotedBy quiet s
