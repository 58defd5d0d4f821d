-- What `follow` does: the moves of a report, whoever wrote it, are followed over a yard, and the table of them is written, in the order in which the ship is
-- loaded where a message is asked for, or that of the bays; and their page, and the list of the yard as they leave it, where these are asked for.
use Rattle.std.specs.Prelude.{◌≡◌, ◌≢◌, ℕ, Bool, true, false, ◌+◌, ◌-◌, ◌<◌, ◌≤◌, ◌⊎◌, List, [], length, codes, Option, Some, None, option_map, option_and_then, IfSome, IsSomeAnd, MatchOption, IsTrue, is_some, Result, MatchResult, ⊤}
use Rattle.crp_plan.specs.Devices.{HasFailed, most_interruptions}
use Rattle.crp_sizes.specs.Sizes.{YardSizes}
use Rattle.crp_yard.specs.Inventory.{Inventory}
use Rattle.crp_yard.specs.Reading.{IsTextOf, IsYardListOf}
use Rattle.crp_movins.specs.LoadOrders.{LoadOrders}
use Rattle.crp_said.specs.declared.numbers.Numbers.{Numbers}
use Rattle.crp_follow.specs.declared.fault.FollowFault.TheVariants as followed
use Rattle.crp_follow.specs.Stated.{most_bytes}
use Rattle.crp_follow.specs.Followed.{BayFollowed, IsFollowed}
use Rattle.crp_follow.specs.Faults.{IsFirstFault}
use Rattle.crp_follow.specs.Table.{table_text}
use Rattle.crp_follow.specs.Summary.{summary_text}
use Rattle.crp_follow.specs.Behind.{Made, IsListBehind, all_moves}
use Rattle.crp_follow.specs.Parts.{NamedPart}
use Rattle.crp_follow.specs.Unstated.{bays_of_part, first_unstated}
use Rattle.crp_loading.specs.declared.fault.LoadingFault.{LoadingFault}
use Rattle.crp_loading.specs.declared.fault.LoadingFault.TheVariants as loading
use Rattle.crp_loading.specs.Faults.{faults_of, IsFirst}
use Rattle.crp_loading.specs.Turns.{ShipOrder}
use Rattle.crp_loading.specs.Loading.{load_text}
use Rattle.crp_loading.specs.Summary.{load_summary}
use Rattle.crp_loading.specs.Loaded.{made_up_to}
use Rattle.crp_page.specs.Page.{page_text}
use Rattle.crp_page.specs.declared.ordered.OrderNumbers.{OrderNumbers}
use Rattle.crp_page.specs.declared.ordered.OrderNumbers.TheVariants.{Counted, Stated}
use Rattle.crp_report.specs.declared.fault.Fault.{Fault}
use Rattle.crp_report.specs.declared.fault.Fault.TheVariants as run
use Rattle.crp_report.specs.declared.fault.Input.TheVariants as input
use Rattle.crp_report.specs.declared.fault.Output.TheVariants as output
use Rattle.crp_report.specs.declared.status.Status.{Status}
use Rattle.crp_report.specs.declared.status.Status.TheVariants as status
use Rattle.crp_report.specs.BayTexts.{IsNoYard}
use Rattle.crp_report.specs.Chosen.{InputChosen}
use Rattle.crp_report.specs.Runs.{SourceSeen, SinkSeen, Gets, GetsFront, GetsPart, GetsNothing, numbers_of}
use Rattle.crp_jobs.specs.declared.job.FollowFiles.{FollowFiles}
use Rattle.crp_jobs.specs.declared.outcome.Statement.TheVariants as statement
use Rattle.crp_jobs.specs.declared.outcome.ToolFault.{ToolFault}
use Rattle.crp_jobs.specs.declared.outcome.ToolFault.TheVariants as fault
use Rattle.crp_commands.specs.declared.following.FollowSettings.{FollowSettings}
use Rattle.crp_commands.specs.Audit.{IsInputOf, IsNoInput}
use Rattle.crp_commands.specs.Calls.{failures_of_tool_fault}
use Rattle.crp_commands.specs.Partial.{IsReportIn}
use Rattle.crp_files.specs.Known.{KnownFiles}
use Rattle.crp_files.specs.Roles.{IsShared}
use Rattle.crp_jobs.specs.Names.{after_name, named_in_follow}
use Rattle.crp_jobs.specs.Opened.{FilesSeen, FilesFail, AreUnemptied, IsFileOpened, IsFileMade, IsLeft, IsSourceLeftAlone, IsLeftAlone}
use Rattle.crp_separated.specs.Inputs.{with_separator}
use Rattle.crp_commands.specs.Lists.{IsListOpened}

-- what is asked for: what the input means, the part of the report, how many containers the ship has got, if the yard after is that of then, whether the
-- report may end early, whether the table is to be that of the bays, and the byte between the fields of what is written
pub record FollowChosen : Type 0 where
  pub input : InputChosen
  pub part : NamedPart
  pub loaded : Option ℕ
  pub partial : Bool
  pub summary : Bool
  pub separator : ℕ

-- what the settings ask for
abbrev pub chosen_in : FollowSettings → FollowChosen
chosen_in s = record { input = s.input.now; part = s.part.now; loaded = s.loaded; partial = s.partial; summary = s.summary; separator = s.separator }

-- what a call saw of the sinks of its texts: that of the page and that of the list, where these are asked for, and that of the table
pub record TextsSeen : Type 0 where
  pub page : Option SinkSeen
  pub list : Option SinkSeen
  pub table : SinkSeen

-- and of its sources: the yard list, the message where one is asked for, and the report
pub record FollowSeen : Type 0 where
  pub yard : SourceSeen
  pub movins : Option SourceSeen
  pub report : SourceSeen
  pub texts : TextsSeen

-- what was seen of a device for which something is asked, or nothing
abbrev pub if_asked : {A : Type 0} → Bool → A → Option A
if_asked true seen = Some seen
if_asked false seen = None

-- so many calls of a source have failed, where there is one
abbrev pub source_failures : Option SourceSeen → ℕ
source_failures (Some source) = source.after - source.before
source_failures None = 0

-- so many calls of a sink have failed, where there is one
abbrev pub sink_failures : Option SinkSeen → ℕ
sink_failures (Some sink) = sink.after - sink.before
sink_failures None = 0

-- so many calls of the sinks of the page and of the list have failed
abbrev pub file_failures : TextsSeen → ℕ
file_failures t = sink_failures t.page + sink_failures t.list

-- so many calls of all of them
abbrev pub follow_failures : FollowSeen → ℕ
follow_failures s = (s.yard.after - s.yard.before) + (source_failures s.movins + ((s.report.after - s.report.before)
    + (file_failures s.texts + (s.texts.table.after - s.texts.table.before))))

-- ---- what goes in

-- the load orders of a message, and the sequence in which the ship gets its containers
abbrev pub Ship : Type 0
Ship = LoadOrders × List (List ℕ)

-- the source had a yard list whose bays have these sizes, it is accepted, and this stands in the yard
abbrev pub IsYardIn : YardSizes → SourceSeen → Inventory → Type 0
IsYardIn sizes source yard = (list : List ℕ) × IsTextOf source.given list × IsYardListOf sizes list yard

-- the sources had a yard list and, where one is asked for, a message, both accepted: what stands in the yard, and what the ship is to get
abbrev pub IsFollowInput : InputChosen → SourceSeen → Option SourceSeen → Inventory → Option Ship → Type 0
IsFollowInput chosen source None yard None = IsYardIn chosen.sizes source yard
IsFollowInput chosen source (Some message) yard (Some ship) = IsInputOf chosen source message yard ship.0 ship.1
IsFollowInput chosen source message yard ship = ⊥

-- why there is no input: the fault of the yard list or, where a message is asked for and that is accepted, of the message
abbrev pub IsNoFollowInput : InputChosen → SourceSeen → Option SourceSeen → Fault → Type 0
IsNoFollowInput chosen source None f = IsNoYard chosen.sizes source.given source.before source.after f
IsNoFollowInput chosen source (Some message) f = IsNoInput chosen source message f

-- why no report was read of a source: a read has failed, there are too many bytes, or memory is lacking
abbrev pub IsNoReport : SourceSeen → ToolFault → Type 0
IsNoReport source (fault.ReadOf statement.Report) = HasFailed source.before source.after
IsNoReport source (fault.Followed followed.TooLong) = IfSome source.given (λ bytes. most_bytes < length bytes)
IsNoReport source fault.Memory = ⊤
IsNoReport source f = ⊥

-- ---- what comes of it

-- the table of a report that is followed: that of its bays, where this is asked for, with what no move takes of each where there is a ship; else that of its moves, by the turns of the ship, where there is one, and
-- else bay by bay
abbrev pub table_for : Bool → Option Ship → List BayFollowed → List ℕ
table_for true None bays = summary_text bays
table_for true (Some ship) bays = load_summary ship.1 bays
table_for false None bays = table_text bays
table_for false (Some ship) bays = load_text ship.1 ship.0.list bays

-- the faults of its takes by the ship's order, where there is one
abbrev pub loading_faults : Option Ship → List BayFollowed → List LoadingFault
loading_faults None bays = []
loading_faults (Some ship) bays = faults_of ship.1 bays

-- the report is followed over the yard, and no take of it has a fault by the ship's order
abbrev pub IsLoaded : Option Ship → Inventory → List ℕ → Numbers → List BayFollowed → Type 0
IsLoaded ship yard report numbers bays = IsFollowed yard report numbers bays × (loading_faults ship bays ≡ [])

-- the numbers on the page: counted from the yard and the message, where there is one, and else as the report states them
abbrev pub numbers_for : Option Ship → Inventory → Numbers → OrderNumbers
numbers_for None yard stated = Stated stated
numbers_for (Some ship) yard stated = Counted (numbers_of yard ship.0 ship.1)

-- the order of the ship on the page, where there is one
abbrev pub order_for : Option Ship → Option ShipOrder
order_for None = None
order_for (Some ship) = Some (record { sequence = ship.1; orders = ship.0.list; heading = ship.0.heading })

-- the moves that were made in the yard after: those up to so many containers of the ship, where that is asked for, and else all
abbrev pub made_for : Option Ship → Option ℕ → List BayFollowed → List Made
made_for (Some ship) (Some n) bays = made_up_to ship.1 n bays
made_for (Some ship) None bays = all_moves bays
made_for None loaded bays = all_moves bays

-- the text is the list of the yard behind these moves, with this byte between its fields
abbrev pub IsPartedList : ℕ → Inventory → List Made → List ℕ → Type 0
IsPartedList separator yard made text = (list : List ℕ) × IsListBehind yard made list × (text ≡ with_separator separator list)

-- the texts of a report: its page, the list of the yard behind its moves, and the table of them or of its bays
pub record Texts : Type 0 where
  pub page : List ℕ
  pub list : List ℕ
  pub table : List ℕ

-- the report is followed over the yard, loads the ship and has all bays and blocks that are named, and these are the texts of that part, that of the list
-- where it is wanted
pub record AreTextsOf (chosen : FollowChosen) (ship : Option Ship) (yard : Inventory) (report : List ℕ) (wanted : Bool) (x : Texts) : Type 0 where
  pub numbers : Numbers
  pub bays : List BayFollowed
  pub is_loaded : IsLoaded ship yard report numbers bays
  pub stated : first_unstated chosen.part bays ≡ None
  pub page : x.page ≡ page_text yard (numbers_for ship yard numbers) (order_for ship) (bays_of_part chosen.part bays)
  pub list : IsTrue wanted → IsPartedList chosen.separator yard (made_for ship chosen.loaded (bays_of_part chosen.part bays)) x.list
  pub table : x.table ≡ with_separator chosen.separator (table_for chosen.summary ship (bays_of_part chosen.part bays))

-- why there are no texts of this part of a report: its first fault, or where it is followed the first fault of its takes, or where it loads the ship the
-- first that is named and not in it; or lack of memory
abbrev pub HasNoTexts : NamedPart → Option Ship → Inventory → List ℕ → ToolFault → Type 0
HasNoTexts part ship yard report (fault.Followed f) = (f ≢ followed.Memory) × IsFirstFault yard report f
HasNoTexts part ship yard report (fault.Loaded f) =
    (f ≢ loading.Memory) × ((numbers : Numbers) × (bays : List BayFollowed) × IsFollowed yard report numbers bays × IsFirst (loading_faults ship bays) f)
HasNoTexts part ship yard report (fault.Unstated u) =
    (numbers : Numbers) × (bays : List BayFollowed) × IsLoaded ship yard report numbers bays × (first_unstated part bays ≡ Some u)
HasNoTexts part ship yard report fault.Memory = ⊤
HasNoTexts part ship yard report f = ⊥

-- nothing was written
abbrev pub WritesNothing : TextsSeen → Type 0
WritesNothing t = IfSome t.page GetsNothing × IfSome t.list GetsNothing × GetsNothing t.table

-- the text was written, where it is asked for, and nothing else
abbrev pub WritesWhole : List ℕ → Option SinkSeen → Type 0
WritesWhole text sink = IfSome sink (λ s. Gets s text)

-- a write of the text, which is asked for, has failed, after a front of it that is not all of it
abbrev pub WritesPart : List ℕ → Option SinkSeen → Type 0
WritesPart text sink = IsSomeAnd sink (λ s. HasFailed s.before s.after × GetsPart s text)

-- the texts were written, where they are asked for, and nothing else
abbrev pub WritesAll : Texts → TextsSeen → Type 0
WritesAll x t = WritesWhole x.page t.page × WritesWhole x.list t.list × Gets t.table x.table

-- why they were not all written: a write of one of them has failed, behind all of those before it, and before the others; or memory is lacking, behind a front
-- of the page
abbrev pub StopsWriting : Texts → TextsSeen → ToolFault → Type 0
StopsWriting x t fault.WritePage = WritesPart x.page t.page × IfSome t.list GetsNothing × GetsNothing t.table
StopsWriting x t (fault.Run (run.Write output.YardAfter)) = WritesWhole x.page t.page × WritesPart x.list t.list × GetsNothing t.table
StopsWriting x t fault.WriteTable = WritesWhole x.page t.page × WritesWhole x.list t.list × (HasFailed t.table.before t.table.after × GetsPart t.table x.table)
StopsWriting x t fault.Memory = IfSome t.page (λ s. GetsFront s x.page) × IfSome t.list GetsNothing × GetsNothing t.table
StopsWriting x t f = ⊥

-- the texts of the report were written
abbrev pub WritesTexts : FollowChosen → Option Ship → Inventory → List ℕ → TextsSeen → Type 0
WritesTexts chosen ship yard report t = (x : Texts) × AreTextsOf chosen ship yard report (is_some t.list) x × WritesAll x t

-- why they were not: there are none, and nothing was written; or not all of them were
abbrev pub StopsFollowing : FollowChosen → Option Ship → Inventory → List ℕ → TextsSeen → ToolFault → Type 0
StopsFollowing chosen ship yard report t f = (HasNoTexts chosen.part ship yard report f × WritesNothing t)
    ⊎ ((x : Texts) × AreTextsOf chosen ship yard report (is_some t.list) x × StopsWriting x t f)

-- the sources had this input and a text that is this report: of one that ends early it is the report with its last line
pub record AreGiven (chosen : FollowChosen) (s : FollowSeen) (yard : Inventory) (ship : Option Ship) (report : List ℕ) : Type 0 where
  pub input : IsFollowInput chosen.input s.yard s.movins yard ship
  pub report_given : (text : List ℕ) × (bays : Option ℕ) × IsTextOf s.report.given text × IsReportIn chosen.partial text report bays

-- the sources had an input and a report that is followed: its texts were written, and nothing else
abbrev pub Follows : FollowChosen → FollowSeen → Type 0
Follows chosen s = (yard : Inventory) × (ship : Option Ship) × (report : List ℕ) × AreGiven chosen s yard ship report
    × WritesTexts chosen ship yard report s.texts

-- why there is no input, as a run states it, or where it is accepted no report
abbrev pub IsNotRead : FollowChosen → FollowSeen → ToolFault → Type 0
IsNotRead chosen s f = ((g : Fault) × (f ≡ fault.Run g) × IsNoFollowInput chosen.input s.yard s.movins g)
    ⊎ (((yard : Inventory) × (ship : Option Ship) × IsFollowInput chosen.input s.yard s.movins yard ship) × IsNoReport s.report f)

-- what a fault says of a call: why nothing was read, and nothing was written; or why the texts of an input and a report that the sources had were not
abbrev pub FollowFailsWith : FollowChosen → FollowSeen → ToolFault → Type 0
FollowFailsWith chosen s f = (IsNotRead chosen s f × WritesNothing s.texts)
    ⊎ ((yard : Inventory) × (ship : Option Ship) × (report : List ℕ) × AreGiven chosen s yard ship report
    × StopsFollowing chosen ship yard report s.texts f)

-- ---- with its failures

-- it was done, and no more calls failed than may be passed over
abbrev pub FollowEnds : FollowChosen → FollowSeen → Status → Type 0
FollowEnds chosen s ended = (ended ≡ status.Decided) × Follows chosen s × (follow_failures s ≤ most_interruptions)

-- it failed so, and no more calls failed than may be passed over and the one that is stated
abbrev pub FollowFails : FollowChosen → FollowSeen → ToolFault → Type 0
FollowFails chosen s f = FollowFailsWith chosen s f × (follow_failures s ≤ most_interruptions + failures_of_tool_fault f)

-- ---- over files

-- the message is read from its file exactly where one is named
abbrev pub IsMessageFrom : KnownFiles → Option (List ℕ) → Option SourceSeen → Type 0
IsMessageFrom known (Some name) (Some source) = IsFileOpened known name source
IsMessageFrom known None None = ⊤
IsMessageFrom known name source = ⊥

-- how often the file of the page, and that of the list, could not be finished: of those that were, not at all, and else once
pub record Unended : Type 0 where
  pub page : ℕ
  pub list : ℕ

abbrev pub all_ended : Unended
all_ended = record { page = 0; list = 0 }

-- the fault states that one of them could not be finished, as a failed write of it
abbrev pub IsUnended : Unended → ToolFault → Type 0
IsUnended u f = ((f ≡ fault.WritePage) × (u.page ≡ 1)) ⊎ ((f ≡ fault.Run (run.Write output.YardAfter)) × (u.list ≡ 1))

-- what failed of the files that are written
abbrev pub ends_failed : TextsSeen → Unended → ℕ
ends_failed t u = file_failures t + (u.page + u.list)

-- the report that is named `-` is the standard input, any other is the file of its name; what failed of the files is what failed of those that were opened,
-- of which so many calls failed of those before the report, and of finishing those that are written
abbrev pub IsReportFrom : List ℕ → FilesSeen → SourceSeen → ℕ → Unended → FollowSeen → Type 0
IsReportFrom name files input before u s = ((name ≡ codes "-") × (s.report ≡ input) × FilesFail files (before + ends_failed s.texts u))
    ⊎ ((name ≢ codes "-") × IsFileOpened files.known name s.report × IsSourceLeftAlone input × FilesFail files (before + (s.report.after + ends_failed s.texts u)))

-- a sink is a file that was made for a text exactly where one is asked for
abbrev pub IsTextMade : KnownFiles → Option (List ℕ) → ℕ → Option SinkSeen → Type 0
IsTextMade known (Some name) unfinished (Some sink) = IsFileMade known sink
IsTextMade known None unfinished None = unfinished ≡ 0
IsTextMade known name unfinished sink = ⊥

-- the name of the message, of the page, and of the list, if there is one
abbrev pub message_name : FollowFiles → Option (List ℕ)
message_name names = option_map (λ name. name.now) names.movins

abbrev pub page_name : FollowFiles → Option (List ℕ)
page_name names = option_map (λ name. name.now) names.page

abbrev pub list_name : FollowFiles → Option (List ℕ)
list_name names = after_name names.after

-- the two files that are written, where both are, are known to be two
abbrev pub AreTwo : KnownFiles → Option (List ℕ) → Option (List ℕ) → Type 0
AreTwo known one two = IfSome two (λ t. IfSome one (λ o. known.are_one t o ≡ Some false))

-- this name is known to lead to neither of them
abbrev pub IsNeither : KnownFiles → Option (List ℕ) → Option (List ℕ) → List ℕ → Type 0
IsNeither known one two other = IfSome one (λ name. known.are_one name other ≡ Some false) × IfSome two (λ name. known.are_one name other ≡ Some false)

-- the page and the list go to files that were made for them exactly where they are asked for, and so often these could not be finished; what they got stands
-- there under their names, where files state what is written to them and these are two, and they were finished; and no other file has changed. None of them
-- is known to be another one that is named, or to stand behind a standard stream
pub record AreTextsTo (files : FilesSeen) (names : FollowFiles) (u : Unended) (t : TextsSeen) : Type 0 where
  pub page_made : IsTextMade files.known (page_name names) u.page t.page
  pub list_made : IsTextMade files.known (list_name names) u.list t.list
  pub page_left : AreTwo files.known (page_name names) (list_name names) → IfSome t.page (IsLeft files (page_name names) u.page)
  pub list_left : IfSome t.list (IsLeft files (list_name names) u.list)
  pub others : (other : List ℕ) → IsNeither files.known (page_name names) (list_name names) other → files.left.given other ≡ files.known.given other
  pub apart : IsShared files.known (named_in_follow names) → ⊥

-- the sources are the files of the yard list and of the message, where one is named, and what the name of the report stands for, and the page and the list go
-- to the files of their names
pub record IsOverFollowed (names : FollowFiles) (files : FilesSeen) (input : SourceSeen) (shown : SinkSeen) (u : Unended) (s : FollowSeen) : Type 0 where
  pub yard : IsListOpened files.known names.separator names.yard.now s.yard
  pub movins : IsMessageFrom files.known (message_name names) s.movins
  pub report : IsReportFrom names.report.now files input (s.yard.after + source_failures s.movins) u s
  pub texts : AreTextsTo files names u s.texts
  pub table : s.texts.table ≡ shown

-- the file of a text, which is asked for, may be refused to who would write it
abbrev pub IsTextRefused : (List ℕ → Bool) → Option (List ℕ) → Type 0
IsTextRefused may_not_create name = MatchOption name ⊥ (λ n. IsTrue (may_not_create n))

-- the file of the message, which is asked for, may be refused to who would read it
abbrev pub IsMessageRefused : (List ℕ → Bool) → FollowFiles → Type 0
IsMessageRefused may_not_open names = MatchOption names.movins ⊥ (λ name. IsTrue (may_not_open name.now))

-- the fault states that a file cannot be opened: one that is read as a failed read of it, and then the files are as they were; one that is written as a failed
-- write to it, and then none is known to be another one. Or it states that one that is written may be another one, and then no file was emptied
abbrev pub IsOfUnfollowed : KnownFiles → KnownFiles → FollowFiles → ToolFault → Type 0
IsOfUnfollowed known left names (fault.Run (run.Read input.Yard)) = IsTrue (known.may_not_open names.yard.now) × (left ≡ known)
IsOfUnfollowed known left names (fault.Run (run.Read input.Movins)) = IsMessageRefused known.may_not_open names × (left ≡ known)
IsOfUnfollowed known left names (fault.ReadOf statement.Report) =
    (names.report.now ≢ codes "-") × IsTrue (known.may_not_open names.report.now) × (left ≡ known)
IsOfUnfollowed known left names fault.WritePage = IsTextRefused known.may_not_create (page_name names) × (IsShared known (named_in_follow names) → ⊥)
IsOfUnfollowed known left names (fault.Run (run.Write output.YardAfter)) =
    IsTextRefused known.may_not_create (list_name names) × (IsShared known (named_in_follow names) → ⊥)
IsOfUnfollowed known left names (fault.OneFile s) = AreUnemptied (named_in_follow names) known left s
IsOfUnfollowed known left names f = ⊥

-- a file could not be opened, or was not emptied, which the fault states; nothing else has failed, and the standard input and the sink were left alone
pub record IsUnfollowed (names : FollowFiles) (files : FilesSeen) (input : SourceSeen) (out : SinkSeen) (f : ToolFault) : Type 0 where
  pub stated : IsOfUnfollowed files.known files.left names f
  pub failed : FilesFail files (failures_of_tool_fault f)
  pub unread : IsSourceLeftAlone input
  pub alone : IsLeftAlone out

-- it failed so; or it was done, and then a file that was written could not be finished, which is stated as a failed write of it
abbrev pub FollowStops : FollowChosen → Unended → FollowSeen → ToolFault → Type 0
FollowStops chosen u s f = FollowFails chosen s f ⊎ (IsUnended u f × ((ended : Status) × FollowEnds chosen s ended))

-- what is asked for by these names, where the input means this
abbrev pub chosen_by : FollowFiles → InputChosen → FollowChosen
chosen_by names input = record {
  input = input;
  part = names.part;
  loaded = option_and_then (λ file. file.loaded) names.after;
  partial = names.partial;
  summary = names.summary;
  separator = names.separator;
}

-- how the job ends
abbrev pub FollowReportsOverFiles : FollowFiles → InputChosen → FilesSeen → SourceSeen → SinkSeen → Status → Type 0
FollowReportsOverFiles names input files given out ended =
    (s : FollowSeen) × IsOverFollowed names files given out all_ended s × FollowEnds (chosen_by names input) s ended

abbrev pub FollowFailsOverFiles : FollowFiles → InputChosen → FilesSeen → SourceSeen → SinkSeen → ToolFault → Type 0
FollowFailsOverFiles names input files given out f = IsUnfollowed names files given out f
    ⊎ ((s : FollowSeen) × (u : Unended) × IsOverFollowed names files given out u s × FollowStops (chosen_by names input) u s f)

-- ---- a call some of whose devices are open. Only private clauses speak of it

-- why a page was not written: a write of it has failed, or memory is lacking, behind a front of it
abbrev pub StopsPage : List ℕ → Option SinkSeen → ToolFault → Type 0
StopsPage text page f = ((f ≡ fault.WritePage) × WritesPart text page) ⊎ ((f ≡ fault.Memory) × IfSome page (λ sink. GetsFront sink text))

-- the answer of a call whose devices are these, or that refuses a file so
abbrev pub AnswersOver : FollowChosen → (Unended → FollowSeen → Type 0) → (ToolFault → Type 0) → Result Status ToolFault → Type 0
AnswersOver chosen Is Refuses answer = MatchResult answer (λ ended. (s : FollowSeen) × Is all_ended s × FollowEnds chosen s ended)
    (λ f. Refuses f ⊎ ((s : FollowSeen) × (u : Unended) × Is u s × FollowStops chosen u s f))

-- the devices that are open before the report is
pub record Opened : Type 0 where
  pub yard : SourceSeen
  pub movins : Option SourceSeen
  pub out : SinkSeen

-- a file could not be opened, or was not emptied, and the devices that are open were left alone, and so was what is read as the report
pub record RefusesFile (names : FollowFiles) (files : FilesSeen) (devices : Opened) (report : SourceSeen) (f : ToolFault) : Type 0 where
  pub stated : IsOfUnfollowed files.known files.left names f
  pub failed : FilesFail files (failures_of_tool_fault f)
  pub yard : IsSourceLeftAlone devices.yard
  pub movins : IfSome devices.movins IsSourceLeftAlone
  pub unread : IsSourceLeftAlone report
  pub out : IsLeftAlone devices.out

-- what a call saw that makes the files of the page and of the list, where they are asked for
pub record IsOverTexts (names : FollowFiles) (files : FilesSeen) (devices : Opened) (report : SourceSeen) (u : Unended) (s : FollowSeen) : Type 0 where
  pub texts : TextsSeen
  pub is : s ≡ record { yard = devices.yard; movins = devices.movins; report = report; texts = texts }
  pub table : texts.table ≡ devices.out
  pub to : AreTextsTo files names u texts
  pub failed : FilesFail files (ends_failed texts u)

-- and one that opens the report, where that is a file
pub record IsOverReport (names : FollowFiles) (files : FilesSeen) (devices : Opened) (input : SourceSeen) (u : Unended) (s : FollowSeen) : Type 0 where
  pub yard : s.yard ≡ devices.yard
  pub movins : s.movins ≡ devices.movins
  pub report : IsReportFrom names.report.now files input 0 u s
  pub texts : AreTextsTo files names u s.texts
  pub table : s.texts.table ≡ devices.out

-- and one that opens the message, where one is named
pub record IsOverMessage (names : FollowFiles) (files : FilesSeen) (listed input : SourceSeen) (shown : SinkSeen) (u : Unended) (s : FollowSeen) : Type 0 where
  pub yard : s.yard ≡ listed
  pub movins : IsMessageFrom files.known (message_name names) s.movins
  pub report : IsReportFrom names.report.now files input (source_failures s.movins) u s
  pub texts : AreTextsTo files names u s.texts
  pub table : s.texts.table ≡ shown
