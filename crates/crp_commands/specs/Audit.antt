-- What `audit` does: a report and a file of certificates, whoever made them, are held against a yard list and a message.
use Rattle.std.specs.Prelude.{◌≡◌, ◌≢◌, ℕ, Bool, ◌+◌, ◌-◌, ◌<◌, ◌≤◌, ◌⊎◌, List, [], ◌∷◌, ◌++◌, length, codes, decimal, Option, IfSome, IsTrue, ⊤}
use Rattle.crp_plan.specs.BayNames.{YardBay}
use Rattle.crp_plan.specs.Devices.{HasFailed, most_interruptions}
use Rattle.crp_yard.specs.Inventory.{Inventory}
use Rattle.crp_yard.specs.Reading.{IsTextOf, IsYardListOf}
use Rattle.crp_movins.specs.LoadOrders.{LoadOrders}
use Rattle.crp_order.specs.OfBays.{IsSequenceOf}
use Rattle.crp_checker.specs.declared.verdict.Verdict.{Verdict}
use Rattle.crp_report.specs.declared.fault.Fault.{Fault}
use Rattle.crp_report.specs.declared.fault.Fault.TheVariants as run
use Rattle.crp_report.specs.declared.fault.Input.TheVariants as input
use Rattle.crp_report.specs.declared.status.Status.{Status}
use Rattle.crp_report.specs.declared.status.Status.TheVariants as status
use Rattle.crp_report.specs.Chosen.{InputChosen}
use Rattle.crp_report.specs.BayTexts.{IsNoYard, IsNoMessage}
use Rattle.crp_report.specs.Runs.{SourceSeen, SinkSeen, AreOrders, Gets, GetsPart, GetsNothing}
use Rattle.crp_audit.specs.Headline.{Handed, IsHeadline, shown_in}
use Rattle.crp_audit.specs.Faults.{IsAuditRefusal}
use Rattle.crp_audit.specs.declared.fault.AuditFault.{AuditFault}
use Rattle.crp_audit.specs.declared.fault.AuditFault.TheVariants as audited
use Rattle.crp_commands.specs.declared.auditing.TheConstants.{MOST_REPORT}
use Rattle.crp_commands.specs.declared.heads.TheConstants.{ANY_SIZE}
use Rattle.crp_jobs.specs.declared.job.AuditFiles.{AuditFiles}
use Rattle.crp_jobs.specs.declared.outcome.Statement.{Statement}
use Rattle.crp_jobs.specs.declared.outcome.Statement.TheVariants as statement
use Rattle.crp_jobs.specs.declared.outcome.ToolFault.{ToolFault}
use Rattle.crp_jobs.specs.declared.outcome.ToolFault.TheVariants as fault
use Rattle.crp_commands.specs.Calls.{IsTextWithin, failures_of_tool_fault}
use Rattle.crp_commands.specs.Check.{verdict_lines}
use Rattle.crp_commands.specs.Partial.{IsReportIn, part_of}
use Rattle.crp_files.specs.Known.{KnownFiles}
use Rattle.crp_jobs.specs.Opened.{FilesSeen, FilesFail, AreFilesKept, IsFileOpened, IsOneRefused, IsLeftAlone}
use Rattle.crp_commands.specs.Lists.{IsListOpened}

-- what is asked for: what the input means, and whether the report may end early
pub record AuditChosen : Type 0 where
  pub input : InputChosen
  pub partial : Bool

-- what an audit saw of its four sources, and of its sink
pub record AuditSeen : Type 0 where
  pub yard : SourceSeen
  pub movins : SourceSeen
  pub report : SourceSeen
  pub certificates : SourceSeen
  pub out : SinkSeen

-- so many calls of them have failed
abbrev pub audit_failures : AuditSeen → ℕ
audit_failures s = (s.yard.after - s.yard.before) + ((s.movins.after - s.movins.before) + ((s.report.after - s.report.before)
    + ((s.certificates.after - s.certificates.before) + (s.out.after - s.out.before))))

-- two sources had a yard list and a message, both accepted: what stands in the yard, the load orders, and their sequence
pub record IsInputOf (chosen : InputChosen) (yard movins : SourceSeen) (stands : Inventory) (orders : LoadOrders) (sequence : List (List ℕ)) : Type 0 where
  pub list : List ℕ
  pub message : List ℕ
  pub given_list : IsTextOf yard.given list
  pub given_message : IsTextOf movins.given message
  pub listed : IsYardListOf chosen.sizes list stands
  pub ordered : AreOrders chosen.loading message orders
  pub in_sequence : IsSequenceOf chosen.mode chosen.bays stands orders.list sequence

-- the most bytes that are read of what is audited
abbrev pub most_of : Statement → ℕ
most_of statement.Report = MOST_REPORT
most_of statement.Certificates = ANY_SIZE

-- this is what the sources had: the input, a report, and certificates, however many bytes these are. Of a report that ends early it is the report with
-- its last line, and the sequence of the bays that stand there
pub record IsHandedIn (chosen : AuditChosen) (s : AuditSeen) (h : Handed) : Type 0 where
  pub text : List ℕ
  pub bays : Option ℕ
  pub sequence : List (List ℕ)
  pub input : IsInputOf chosen.input s.yard s.movins h.yard h.orders sequence
  pub given : IsTextWithin MOST_REPORT s.report.given text
  pub report : IsReportIn chosen.partial text h.report bays
  pub part : h.sequence ≡ part_of bays h.yard sequence
  pub certificates : IsTextOf s.certificates.given h.certificates

-- ---- what is printed

-- the last line: how many bays were audited
abbrev pub audited_line : ℕ → List ℕ
audited_line bays = codes "audited " ++ (decimal bays ++ 10 ∷ [])

-- of a headline: a line for each bay, as `check` prints it, and the last line
abbrev pub audit_text : List (YardBay × Verdict) → List ℕ
audit_text shown = verdict_lines shown ++ audited_line (length shown)

-- of what is handed in: the text of a headline; or the lines of the bays before the first fault
abbrev pub IsAuditText : Handed → List ℕ → Type 0
IsAuditText h text = ((is : IsHeadline h) × (text ≡ audit_text (shown_in h is)))
    ⊎ ((shown : List (YardBay × Verdict)) × (f : AuditFault) × IsAuditRefusal h shown f × (text ≡ verdict_lines shown))

-- ---- a yes

-- what is handed in is a headline, with no more certificates than are read, its text was written, and nothing else
abbrev pub Audits : AuditChosen → AuditSeen → Type 0
Audits chosen s = (h : Handed) × IsHandedIn chosen s h × (length h.certificates ≤ ANY_SIZE) × ((is : IsHeadline h) × Gets s.out (audit_text (shown_in h is)))

-- ---- a no

-- this is the first fault of what is handed in; the lines of the bays before it were written, and nothing else
abbrev pub RefusesHanded : Handed → SinkSeen → AuditFault → Type 0
RefusesHanded h out f = (shown : List (YardBay × Verdict)) × IsAuditRefusal h shown f × Gets out (verdict_lines shown)

-- why nothing more was written of what is handed in: its first fault; a write that has failed, after a front of the text that is not all of it; or lack of
-- memory
abbrev pub StopsOn : Handed → SinkSeen → ToolFault → Type 0
StopsOn h out (fault.Audited f) = (f ≢ audited.Memory) × RefusesHanded h out f
StopsOn h out fault.Write = HasFailed out.before out.after × ((text : List ℕ) × IsAuditText h text × GetsPart out text)
StopsOn h out fault.Memory = GetsNothing out ⊎ RefusesHanded h out audited.Memory
StopsOn h out f = ⊥

-- the yard list that the source had is accepted
abbrev pub IsListAccepted : InputChosen → SourceSeen → Type 0
IsListAccepted chosen yard = (list : List ℕ) × (stands : Inventory) × IsTextOf yard.given list × IsYardListOf chosen.sizes list stands

-- why there is no input: the fault of the yard list, or where that is accepted of the message, as a run states them
abbrev pub IsNoInput : InputChosen → SourceSeen → SourceSeen → Fault → Type 0
IsNoInput chosen yard movins f = IsNoYard chosen.sizes yard.given yard.before yard.after f
    ⊎ (IsListAccepted chosen yard × IsNoMessage chosen.loading movins.given movins.before movins.after f)

-- the input is accepted
abbrev pub IsInputAccepted : InputChosen → AuditSeen → Type 0
IsInputAccepted chosen s = (stands : Inventory) × (orders : LoadOrders) × (sequence : List (List ℕ)) × IsInputOf chosen s.yard s.movins stands orders sequence

-- why a statement was not read, or not to its end: a read has failed, or there are too many bytes
abbrev pub IsNoStatement : Statement → SourceSeen → ToolFault → Type 0
IsNoStatement which source (fault.ReadOf other) = (other ≡ which) × HasFailed source.before source.after
IsNoStatement which source (fault.TooLargeOf other) = (other ≡ which) × IfSome source.given (λ xs. most_of which < length xs)
IsNoStatement which source fault.Memory = ⊤
IsNoStatement which source f = ⊥

-- its source
abbrev pub statement_of : AuditSeen → Statement → SourceSeen
statement_of s statement.Report = s.report
statement_of s statement.Certificates = s.certificates

-- what a fault says of an audit
abbrev pub AuditFailsWith : AuditChosen → AuditSeen → ToolFault → Type 0
AuditFailsWith chosen s (fault.Run f) = GetsNothing s.out × IsNoInput chosen.input s.yard s.movins f
AuditFailsWith chosen s (fault.ReadOf which) = GetsNothing s.out × IsInputAccepted chosen.input s × IsNoStatement which (statement_of s which) (fault.ReadOf which)
AuditFailsWith chosen s (fault.TooLargeOf which) =
    GetsNothing s.out × IsInputAccepted chosen.input s × IsNoStatement which (statement_of s which) (fault.TooLargeOf which)
AuditFailsWith chosen s fault.Memory = GetsNothing s.out ⊎ ((h : Handed) × IsHandedIn chosen s h × StopsOn h s.out fault.Memory)
AuditFailsWith chosen s f = (h : Handed) × IsHandedIn chosen s h × StopsOn h s.out f

-- ---- with its failures

-- it was done, and no more calls failed than may be passed over
abbrev pub AuditEnds : AuditChosen → AuditSeen → Status → Type 0
AuditEnds chosen s ended = (ended ≡ status.Decided) × Audits chosen s × (audit_failures s ≤ most_interruptions)

-- it failed so, and no more calls failed than may be passed over and the one that is stated
abbrev pub AuditFails : AuditChosen → AuditSeen → ToolFault → Type 0
AuditFails chosen s f = AuditFailsWith chosen s f × (audit_failures s ≤ most_interruptions + failures_of_tool_fault f)

-- ---- over files

-- the sources are the files of these names; what failed of the files is what failed of them, and none has changed
pub record IsOverNamed (files : FilesSeen) (names : AuditFiles) (shown : SinkSeen) (s : AuditSeen) : Type 0 where
  pub yard : IsListOpened files.known names.separator names.yard.now s.yard
  pub movins : IsFileOpened files.known names.movins.now s.movins
  pub report : IsFileOpened files.known names.report.now s.report
  pub certificates : IsFileOpened files.known names.certificates.now s.certificates
  pub out : s.out ≡ shown
  pub failed : FilesFail files (s.yard.after + (s.movins.after + (s.report.after + s.certificates.after)))
  pub kept : AreFilesKept files

-- the fault states that a file cannot be opened, as a failed read of it
abbrev pub IsOfUnopened : KnownFiles → AuditFiles → ToolFault → Type 0
IsOfUnopened known names (fault.Run (run.Read input.Yard)) = IsTrue (known.may_not_open names.yard.now)
IsOfUnopened known names (fault.Run (run.Read input.Movins)) = IsTrue (known.may_not_open names.movins.now)
IsOfUnopened known names (fault.ReadOf statement.Report) = IsTrue (known.may_not_open names.report.now)
IsOfUnopened known names (fault.ReadOf statement.Certificates) = IsTrue (known.may_not_open names.certificates.now)
IsOfUnopened known names f = ⊥

-- a file could not be opened, which the fault states; nothing else has failed, and the sink was left alone
pub record IsUnread (files : FilesSeen) (names : AuditFiles) (out : SinkSeen) (f : ToolFault) : Type 0 where
  pub stated : IsOfUnopened files.known names f
  pub one : IsOneRefused files
  pub alone : IsLeftAlone out

-- what is asked for by these names, where the input means this
abbrev pub audited_by : AuditFiles → InputChosen → AuditChosen
audited_by names input = record { input = input; partial = names.partial }

-- how an audit over files ends
abbrev pub AuditReportsOverFiles : AuditFiles → InputChosen → FilesSeen → SinkSeen → Status → Type 0
AuditReportsOverFiles names input files out ended = (s : AuditSeen) × IsOverNamed files names out s × AuditEnds (audited_by names input) s ended

abbrev pub AuditFailsOverFiles : AuditFiles → InputChosen → FilesSeen → SinkSeen → ToolFault → Type 0
AuditFailsOverFiles names input files out f = IsUnread files names out f ⊎ ((s : AuditSeen) × IsOverNamed files names out s × AuditFails (audited_by names input) s f)
