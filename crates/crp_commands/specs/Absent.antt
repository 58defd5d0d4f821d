-- What `absent` does: it lists the ordered containers of a message that are not in the yard.
use Rattle.std.specs.Prelude.{◌≡◌, ℕ, ◌+◌, ◌-◌, ◌≤◌, ◌⊎◌, List, IsTrue}
use Rattle.crp_plan.specs.Devices.{HasFailed, most_interruptions}
use Rattle.crp_yard.specs.Inventory.{Inventory}
use Rattle.crp_movins.specs.LoadOrders.{LoadOrders}
use Rattle.crp_order.specs.Absences.{absent_text}
use Rattle.crp_report.specs.declared.fault.Fault.TheVariants as run
use Rattle.crp_report.specs.declared.fault.Input.TheVariants as input
use Rattle.crp_report.specs.declared.status.Status.{Status}
use Rattle.crp_report.specs.declared.status.Status.TheVariants as status
use Rattle.crp_report.specs.Chosen.{InputChosen}
use Rattle.crp_report.specs.Runs.{SourceSeen, SinkSeen, Gets, GetsPart, GetsNothing}
use Rattle.crp_files.specs.Known.{KnownFiles}
use Rattle.crp_jobs.specs.declared.job.AbsentFiles.{AbsentFiles}
use Rattle.crp_jobs.specs.declared.outcome.ToolFault.{ToolFault}
use Rattle.crp_jobs.specs.declared.outcome.ToolFault.TheVariants as fault
use Rattle.crp_jobs.specs.Opened.{FilesSeen, FilesFail, AreFilesKept, IsFileOpened, IsOneRefused, IsLeftAlone}
use Rattle.crp_separated.specs.Inputs.{with_separator}
use Rattle.crp_commands.specs.Lists.{IsListOpened}
use Rattle.crp_commands.specs.Audit.{IsInputOf, IsNoInput}
use Rattle.crp_commands.specs.Calls.{failures_of_tool_fault}

-- what is asked for: what the input means, and the byte between the fields of the list
pub record AbsentChosen : Type 0 where
  pub input : InputChosen
  pub separator : ℕ

-- what a list saw of its two sources, and of its sink
pub record AbsentSeen : Type 0 where
  pub yard : SourceSeen
  pub movins : SourceSeen
  pub out : SinkSeen

-- so many calls of them have failed
abbrev pub absent_failures : AbsentSeen → ℕ
absent_failures s = (s.yard.after - s.yard.before) + ((s.movins.after - s.movins.before) + (s.out.after - s.out.before))

-- the text is the list of the ordered containers that are not in the yard, where two sources had a yard list and a message, both accepted
abbrev pub IsAbsentText : AbsentChosen → SourceSeen → SourceSeen → List ℕ → Type 0
IsAbsentText chosen yard movins text = (stands : Inventory) × (orders : LoadOrders) × (sequence : List (List ℕ))
    × IsInputOf chosen.input yard movins stands orders sequence × (text ≡ with_separator chosen.separator (absent_text stands orders.list))

-- the list was written, and nothing else
abbrev pub Lists : AbsentChosen → AbsentSeen → Type 0
Lists chosen s = (text : List ℕ) × IsAbsentText chosen s.yard s.movins text × Gets s.out text

-- what a fault says of a list: that the input is refused; a write that has failed, after a front of the list that is not all of it; or lack of memory
abbrev pub AbsentFailsWith : AbsentChosen → AbsentSeen → ToolFault → Type 0
AbsentFailsWith chosen s (fault.Run f) = GetsNothing s.out × IsNoInput chosen.input s.yard s.movins f
AbsentFailsWith chosen s fault.Write = HasFailed s.out.before s.out.after × ((text : List ℕ) × IsAbsentText chosen s.yard s.movins text × GetsPart s.out text)
AbsentFailsWith chosen s fault.Memory = GetsNothing s.out
AbsentFailsWith chosen s f = ⊥

-- ---- with its failures

-- it was done, and no more calls failed than may be passed over
abbrev pub AbsentEnds : AbsentChosen → AbsentSeen → Status → Type 0
AbsentEnds chosen s ended = (ended ≡ status.Decided) × Lists chosen s × (absent_failures s ≤ most_interruptions)

-- it failed so, and no more calls failed than may be passed over and the one that is stated
abbrev pub AbsentFails : AbsentChosen → AbsentSeen → ToolFault → Type 0
AbsentFails chosen s f = AbsentFailsWith chosen s f × (absent_failures s ≤ most_interruptions + failures_of_tool_fault f)

-- ---- over files

-- the sources are the files of these names; what failed of the files is what failed of them, and none has changed
pub record IsOverInput (files : FilesSeen) (names : AbsentFiles) (shown : SinkSeen) (s : AbsentSeen) : Type 0 where
  pub yard : IsListOpened files.known names.separator names.yard.now s.yard
  pub movins : IsFileOpened files.known names.movins.now s.movins
  pub out : s.out ≡ shown
  pub failed : FilesFail files (s.yard.after + s.movins.after)
  pub kept : AreFilesKept files

-- the fault states that a file cannot be opened, as a failed read of it
abbrev pub IsOfUnopenedInput : KnownFiles → AbsentFiles → ToolFault → Type 0
IsOfUnopenedInput known names (fault.Run (run.Read input.Yard)) = IsTrue (known.may_not_open names.yard.now)
IsOfUnopenedInput known names (fault.Run (run.Read input.Movins)) = IsTrue (known.may_not_open names.movins.now)
IsOfUnopenedInput known names f = ⊥

-- a file could not be opened, which the fault states; nothing else has failed, and the sink was left alone
pub record IsUnreadInput (files : FilesSeen) (names : AbsentFiles) (out : SinkSeen) (f : ToolFault) : Type 0 where
  pub stated : IsOfUnopenedInput files.known names f
  pub one : IsOneRefused files
  pub alone : IsLeftAlone out

-- what is asked for by these names, where the input means this
abbrev pub absent_by : AbsentFiles → InputChosen → AbsentChosen
absent_by names input = record { input = input; separator = names.separator }

-- how a list over files ends
abbrev pub AbsentReportsOverFiles : AbsentFiles → InputChosen → FilesSeen → SinkSeen → Status → Type 0
AbsentReportsOverFiles names input files out ended = (s : AbsentSeen) × IsOverInput files names out s × AbsentEnds (absent_by names input) s ended

abbrev pub AbsentFailsOverFiles : AbsentFiles → InputChosen → FilesSeen → SinkSeen → ToolFault → Type 0
AbsentFailsOverFiles names input files out f =
    IsUnreadInput files names out f ⊎ ((s : AbsentSeen) × IsOverInput files names out s × AbsentFails (absent_by names input) s f)
