-- What `follow` does with two reports: the moves of both, whoever wrote them, are followed over one yard, and the table of their bays is written.
use Rattle.std.specs.Prelude.{◌≡◌, ◌≢◌, ℕ, Bool, ◌+◌, ◌-◌, ◌≤◌, ◌⊎◌, List, codes, Option, IsTrue, Result, MatchResult}
use Rattle.crp_plan.specs.Devices.{HasFailed, most_interruptions}
use Rattle.crp_yard.specs.Inventory.{Inventory}
use Rattle.crp_yard.specs.Reading.{IsTextOf}
use Rattle.crp_said.specs.declared.numbers.Numbers.{Numbers}
use Rattle.crp_follow.specs.declared.fault.FollowFault.{FollowFault}
use Rattle.crp_follow.specs.declared.fault.FollowFault.TheVariants as followed
use Rattle.crp_follow.specs.Followed.{BayFollowed, IsFollowed}
use Rattle.crp_follow.specs.Faults.{IsFirstFault}
use Rattle.crp_follow.specs.Compare.{compare_text}
use Rattle.crp_report.specs.declared.fault.Fault.{Fault}
use Rattle.crp_report.specs.declared.fault.Fault.TheVariants as run
use Rattle.crp_report.specs.declared.fault.Input.TheVariants as input
use Rattle.crp_report.specs.declared.status.Status.{Status}
use Rattle.crp_report.specs.declared.status.Status.TheVariants as status
use Rattle.crp_report.specs.BayTexts.{IsNoYard}
use Rattle.crp_report.specs.Chosen.{InputChosen}
use Rattle.crp_report.specs.Runs.{SourceSeen, SinkSeen, Gets, GetsPart, GetsNothing}
use Rattle.crp_files.specs.Known.{KnownFiles}
use Rattle.crp_jobs.specs.declared.job.CompareFiles.{CompareFiles}
use Rattle.crp_jobs.specs.declared.outcome.Statement.TheVariants as statement
use Rattle.crp_jobs.specs.declared.outcome.ToolFault.{ToolFault}
use Rattle.crp_jobs.specs.declared.outcome.ToolFault.TheVariants as fault
use Rattle.crp_jobs.specs.Outcomes.{fault_of_follow}
use Rattle.crp_jobs.specs.Opened.{FilesSeen, FilesFail, AreFilesKept, IsFileOpened, IsOneRefused, IsSourceLeftAlone, IsLeftAlone}
use Rattle.crp_separated.specs.Inputs.{with_separator}
use Rattle.crp_commands.specs.Lists.{IsListOpened}
use Rattle.crp_commands.specs.Calls.{failures_of_tool_fault}
use Rattle.crp_commands.specs.Follow.{IsNoReport, IsYardIn}
use Rattle.crp_commands.specs.Partial.{IsReportIn}

-- what is asked for: what the yard list means, whether the reports may end early, and the byte between the fields of the table
pub record CompareChosen : Type 0 where
  pub input : InputChosen
  pub partial : Bool
  pub separator : ℕ

-- what a call saw of its sources, the yard list and the two reports, and of the sink of the table
pub record CompareSeen : Type 0 where
  pub yard : SourceSeen
  pub report : SourceSeen
  pub second : SourceSeen
  pub table : SinkSeen

-- so many calls of them have failed
abbrev pub compare_failures : CompareSeen → ℕ
compare_failures s = (s.yard.after - s.yard.before) + ((s.report.after - s.report.before)
    + ((s.second.after - s.second.before) + (s.table.after - s.table.before)))

-- ---- the reports

-- the source had a text that is this report: of one that ends early it is the report with its last line
abbrev pub IsReportGiven : Bool → SourceSeen → List ℕ → Type 0
IsReportGiven partial source report = (text : List ℕ) × (bays : Option ℕ) × IsTextOf source.given text × IsReportIn partial text report bays

-- the source had a report that is followed over the yard, and these are its numbers and its bays
abbrev pub IsReportFollowed : Bool → Inventory → SourceSeen → Numbers → List BayFollowed → Type 0
IsReportFollowed partial yard source numbers bays = (report : List ℕ) × IsReportGiven partial source report × IsFollowed yard report numbers bays

-- why no report of the source is followed: none was read; or this is its first fault, or memory is lacking
abbrev pub IsNotFollowed : Bool → Inventory → SourceSeen → ToolFault → Type 0
IsNotFollowed partial yard source f = IsNoReport source f
    ⊎ ((report : List ℕ) × (g : FollowFault) × IsReportGiven partial source report × (f ≡ fault_of_follow g) × ((g ≡ followed.Memory) ⊎ IsFirstFault yard report g))

-- the same of the second report, as it is stated
abbrev pub second_of : ToolFault → ToolFault
second_of (fault.Followed f) = fault.Second f
second_of (fault.ReadOf which) = fault.ReadSecond
second_of f = f

-- ---- what comes of them

-- both reports are followed over the yard, and this is the table of their bays
pub record AreCompared (chosen : CompareChosen) (s : CompareSeen) (table : List ℕ) : Type 0 where
  pub yard : Inventory
  pub numbers : Numbers
  pub bays : List BayFollowed
  pub second_numbers : Numbers
  pub seconds : List BayFollowed
  pub listed : IsYardIn chosen.input.sizes s.yard yard
  pub report : IsReportFollowed chosen.partial yard s.report numbers bays
  pub second : IsReportFollowed chosen.partial yard s.second second_numbers seconds
  pub table_is : table ≡ with_separator chosen.separator (compare_text bays seconds)

-- the table was written, and nothing else
abbrev pub Compares : CompareChosen → CompareSeen → Type 0
Compares chosen s = (table : List ℕ) × AreCompared chosen s table × Gets s.table table

-- why there is none: the fault of the yard list, as a run states it; or where that is accepted why the first report is not followed; or where that is followed
-- why the second one is not. Memory may be lacking for the table, too
abbrev pub AreNotCompared : CompareChosen → CompareSeen → ToolFault → Type 0
AreNotCompared chosen s f = ((g : Fault) × (f ≡ fault.Run g) × IsNoYard chosen.input.sizes s.yard.given s.yard.before s.yard.after g)
    ⊎ ((yard : Inventory) × IsYardIn chosen.input.sizes s.yard yard × (IsNotFollowed chosen.partial yard s.report f
    ⊎ ((numbers : Numbers) × (bays : List BayFollowed) × (g : ToolFault) × IsReportFollowed chosen.partial yard s.report numbers bays × (f ≡ second_of g)
    × IsNotFollowed chosen.partial yard s.second g)))

-- what a fault says of a call: why there is no table, and nothing was written; or that a write of the table has failed, after a front of it that is not all of it
abbrev pub CompareFailsWith : CompareChosen → CompareSeen → ToolFault → Type 0
CompareFailsWith chosen s f = (AreNotCompared chosen s f × GetsNothing s.table)
    ⊎ ((f ≡ fault.WriteTable) × HasFailed s.table.before s.table.after × ((table : List ℕ) × AreCompared chosen s table × GetsPart s.table table))

-- it was done, and no more calls failed than may be passed over
abbrev pub CompareEnds : CompareChosen → CompareSeen → Status → Type 0
CompareEnds chosen s ended = (ended ≡ status.Decided) × Compares chosen s × (compare_failures s ≤ most_interruptions)

-- it failed so, and no more calls failed than may be passed over and the one that is stated
abbrev pub CompareFails : CompareChosen → CompareSeen → ToolFault → Type 0
CompareFails chosen s f = CompareFailsWith chosen s f × (compare_failures s ≤ most_interruptions + failures_of_tool_fault f)

-- ---- over files

-- the second report is read from the standard input: it is named `-`, and the first is not
abbrev pub IsSecondInput : CompareFiles → Type 0
IsSecondInput names = (names.report.now ≢ codes "-") × (names.second.now ≡ codes "-")

-- the first report that is named `-` is the standard input, any other is the file of its name; what failed of the files is what failed of those that were opened,
-- of which so many calls failed of those before the reports
abbrev pub AreReportsFrom : CompareFiles → FilesSeen → SourceSeen → ℕ → CompareSeen → Type 0
AreReportsFrom names files input before s =
    ((names.report.now ≡ codes "-") × (s.report ≡ input) × IsFileOpened files.known names.second.now s.second × FilesFail files (before + s.second.after))
    ⊎ ((IsSecondInput names × (s.second ≡ input) × IsFileOpened files.known names.report.now s.report × FilesFail files (before + s.report.after))
    ⊎ ((names.report.now ≢ codes "-") × (names.second.now ≢ codes "-") × IsFileOpened files.known names.report.now s.report
    × IsFileOpened files.known names.second.now s.second × IsSourceLeftAlone input × FilesFail files (before + (s.report.after + s.second.after))))

-- the sources are the file of the yard list and what the names of the reports stand for, and none has changed
pub record IsOverCompared (names : CompareFiles) (files : FilesSeen) (given : SourceSeen) (shown : SinkSeen) (s : CompareSeen) : Type 0 where
  pub yard : IsListOpened files.known names.separator names.yard.now s.yard
  pub reports : AreReportsFrom names files given s.yard.after s
  pub table : s.table ≡ shown
  pub kept : AreFilesKept files

-- the fault states that a file cannot be opened, as a failed read of it
abbrev pub IsOfUnread : KnownFiles → CompareFiles → ToolFault → Type 0
IsOfUnread known names (fault.Run (run.Read input.Yard)) = IsTrue (known.may_not_open names.yard.now)
IsOfUnread known names (fault.ReadOf statement.Report) = (names.report.now ≢ codes "-") × IsTrue (known.may_not_open names.report.now)
IsOfUnread known names fault.ReadSecond = (IsSecondInput names → ⊥) × IsTrue (known.may_not_open names.second.now)
IsOfUnread known names f = ⊥

-- a file could not be opened, which the fault states; nothing else has failed, and the standard input and the sink were left alone
pub record IsUncompared (names : CompareFiles) (files : FilesSeen) (given : SourceSeen) (out : SinkSeen) (f : ToolFault) : Type 0 where
  pub stated : IsOfUnread files.known names f
  pub one : IsOneRefused files
  pub kept : AreFilesKept files
  pub unread : IsSourceLeftAlone given
  pub alone : IsLeftAlone out

-- what is asked for by these names, where the yard list means this
abbrev pub compared_by : CompareFiles → InputChosen → CompareChosen
compared_by names input = record { input = input; partial = names.partial; separator = names.separator }

-- how the job ends
abbrev pub CompareReportsOverFiles : CompareFiles → InputChosen → FilesSeen → SourceSeen → SinkSeen → Status → Type 0
CompareReportsOverFiles names input files given out ended =
    (s : CompareSeen) × IsOverCompared names files given out s × CompareEnds (compared_by names input) s ended

abbrev pub CompareFailsOverFiles : CompareFiles → InputChosen → FilesSeen → SourceSeen → SinkSeen → ToolFault → Type 0
CompareFailsOverFiles names input files given out f = IsUncompared names files given out f
    ⊎ ((s : CompareSeen) × IsOverCompared names files given out s × CompareFails (compared_by names input) s f)

-- ---- a call whose yard list is open. Only private clauses speak of it

-- the devices of a call that opens the reports
pub record IsOverReports (names : CompareFiles) (files : FilesSeen) (yard given : SourceSeen) (shown : SinkSeen) (s : CompareSeen) : Type 0 where
  pub yard_is : s.yard ≡ yard
  pub reports : AreReportsFrom names files given 0 s
  pub table : s.table ≡ shown
  pub kept : AreFilesKept files

-- a report could not be opened, and the yard list was left alone too
pub record RefusesReport (names : CompareFiles) (files : FilesSeen) (yard given : SourceSeen) (out : SinkSeen) (f : ToolFault) : Type 0 where
  pub uncompared : IsUncompared names files given out f
  pub unread : IsSourceLeftAlone yard

-- the answer of such a call
abbrev pub ComparesOver : CompareChosen → (CompareSeen → Type 0) → (ToolFault → Type 0) → Result Status ToolFault → Type 0
ComparesOver chosen Is Refuses answer = MatchResult answer (λ ended. (s : CompareSeen) × Is s × CompareEnds chosen s ended)
    (λ f. Refuses f ⊎ ((s : CompareSeen) × Is s × CompareFails chosen s f))
