-- How a report that is followed ends, from how the parts do.
use Rattle.std.proofs.Common.{◌≡◌, ◌∙◌, ◌⊎◌, ◌-◌, ◌≤◌, ℕ, List, [], Bool, true, false, Option, Some, None, inl, inr, refl, ap, subst, sym, arith}
use Rattle.std.specs.Prelude.{IfSome, IsTrue, is_some, not}
use Rattle.std.specs.Bool.{OnFalse}
use Rattle.crp_yard.specs.Inventory.{Inventory}
use Rattle.crp_yard.specs.Reading.{IsTextOf}
use Rattle.crp_said.specs.declared.numbers.Numbers.{Numbers}
use Rattle.crp_follow.specs.declared.fault.FollowFault.{FollowFault}
use Rattle.crp_follow.specs.declared.fault.FollowFault.TheVariants as followed
use Rattle.crp_follow.specs.Faults.{IsFirstFault}
use Rattle.crp_follow.specs.Followed.{BayFollowed, IsFollowed}
use Rattle.crp_follow.specs.Parts.{NamedPart}
use Rattle.crp_follow.specs.Unstated.{bays_of_part, first_unstated}
use Rattle.crp_loading.specs.declared.fault.LoadingFault.{LoadingFault}
use Rattle.crp_loading.specs.declared.fault.LoadingFault.TheVariants as loading
use Rattle.crp_loading.specs.Faults.{IsFirst}
use Rattle.crp_page.specs.Page.{page_text}
use Rattle.crp_report.specs.declared.fault.Fault.TheVariants as run
use Rattle.crp_report.specs.declared.fault.Output.TheVariants as output
use Rattle.crp_report.specs.Chosen.{InputChosen}
use Rattle.crp_report.specs.Runs.{SourceSeen, SinkSeen, GetsFront, GetsNothing}
use Rattle.crp_jobs.specs.declared.outcome.ToolFault.{ToolFault}
use Rattle.crp_jobs.specs.declared.outcome.ToolFault.TheVariants as fault
use Rattle.crp_jobs.specs.Outcomes.{fault_of_follow, fault_of_loading}
use Rattle.crp_separated.specs.Inputs.{with_separator}
use Rattle.crp_commands.specs.Follow.{AreTextsOf, FollowChosen, HasNoTexts, IsFollowInput, IsLoaded, IsPartedList, Ship, StopsPage, StopsWriting, Texts, WritesPart, WritesWhole, if_asked, loading_faults, made_for, numbers_for, order_for, sink_failures, table_for}
use Rattle.crp_commands.specs.Noted.{IsNotedBy}
use Rattle.crp_commands.specs.Partial.{IsReportIn}
use Rattle.crp_jobs.specs.Opened.{IsSourceLeftAlone}

-- ---- a device of which something may be asked

-- a sink got nothing, if it did so whether or not something is asked of it
pub asked_nothing : (asked : Bool) (sink : SinkSeen) → GetsNothing sink → IfSome (if_asked asked sink) GetsNothing
asked_nothing true sink nothing = nothing
asked_nothing false sink nothing = tt

-- a sink got a front of a text, if it did so whether or not something is asked of it
pub asked_front : (asked : Bool) (sink : SinkSeen) (text : List ℕ) → GetsFront sink text → IfSome (if_asked asked sink) (λ s. GetsFront s text)
asked_front true sink text front = front
asked_front false sink text front = tt

-- no more of its calls have failed than of the sink's
pub asked_failures : (asked : Bool) (sink : SinkSeen) → sink_failures (if_asked asked sink) ≤ sink.after - sink.before
asked_failures true sink = omega arith
asked_failures false sink = omega arith

-- a source was left alone, if it was so whether or not something is asked of it
pub asked_alone : (asked : Bool) (source : SourceSeen) → IsSourceLeftAlone source → IfSome (if_asked asked source) IsSourceLeftAlone
asked_alone true source alone = alone
asked_alone false source alone = tt

-- it is seen exactly where something is asked of it
pub asked_some : (asked : Bool) (sink : SinkSeen) → is_some (if_asked asked sink) ≡ asked
asked_some true sink = refl
asked_some false sink = refl

-- what holds anyway holds where nothing is asked
pub unasked : (asked : Bool) (P : Type 0) → P → OnFalse asked P
unasked true P p = tt
unasked false P p = p

-- ---- why a report has no texts

pub not_followed : (part : NamedPart) (ship : Option Ship) (yard : Inventory) (report : List ℕ) (f : FollowFault) → (f ≡ followed.Memory) ⊎ IsFirstFault yard report f
    → HasNoTexts part ship yard report (fault_of_follow f)
not_followed part ship yard report f (inl memory) = subst (λ (x : FollowFault). HasNoTexts part ship yard report (fault_of_follow x)) (sym memory) tt
not_followed part ship yard report followed.Memory (inr first) = tt
not_followed part ship yard report followed.TooLong (inr first) = ((λ e. cc), first)
not_followed part ship yard report (followed.Orders line) (inr first) = ((λ e. cc), first)
not_followed part ship yard report (followed.NoLine line) (inr first) = ((λ e. cc), first)
not_followed part ship yard report (followed.Count line) (inr first) = ((λ e. cc), first)
not_followed part ship yard report (followed.NoBay line) (inr first) = ((λ e. cc), first)
not_followed part ship yard report (followed.Again line) (inr first) = ((λ e. cc), first)
not_followed part ship yard report (followed.Relocations line) (inr first) = ((λ e. cc), first)
not_followed part ship yard report (followed.Lift line) (inr first) = ((λ e. cc), first)
not_followed part ship yard report (followed.Container line) (inr first) = ((λ e. cc), first)
not_followed part ship yard report (followed.SetDown line) (inr first) = ((λ e. cc), first)

pub not_loaded : (part : NamedPart) (ship : Option Ship) (yard : Inventory) (report : List ℕ) (numbers : Numbers) (bays : List BayFollowed) (f : LoadingFault)
    → IsFollowed yard report numbers bays → (f ≡ loading.Memory) ⊎ IsFirst (loading_faults ship bays) f → HasNoTexts part ship yard report (fault_of_loading f)
not_loaded part ship yard report numbers bays f followed (inl memory) =
    subst (λ (x : LoadingFault). HasNoTexts part ship yard report (fault_of_loading x)) (sym memory) tt
not_loaded part ship yard report numbers bays loading.Memory followed (inr first) = tt
not_loaded part ship yard report numbers bays (loading.OutOfOrder line) followed (inr first) = ((λ e. cc), (numbers, bays, followed, first))
not_loaded part ship yard report numbers bays (loading.NotOrdered line) followed (inr first) = ((λ e. cc), (numbers, bays, followed, first))

-- ---- why its texts were not written

-- the page was not, and then nothing else was
pub no_page : (x : Texts) (page list : Option SinkSeen) (table : SinkSeen) (f : ToolFault) → StopsPage x.page page f → IfSome list GetsNothing → GetsNothing table
    → StopsWriting x (record { page = page; list = list; table = table }) f
no_page x page list table f (inl (is, part)) no_list no_table =
    subst (StopsWriting x (record { page = page; list = list; table = table })) (sym is) (part, no_list, no_table)
no_page x page list table f (inr (is, front)) no_list no_table =
    subst (StopsWriting x (record { page = page; list = list; table = table })) (sym is) (front, no_list, no_table)

-- the list was not
pub no_list : (x : Texts) (page list : Option SinkSeen) (table : SinkSeen) (f : ToolFault) → WritesWhole x.page page
    → (f ≡ fault.Run (run.Write output.YardAfter)) × WritesPart x.list list → GetsNothing table → StopsWriting x (record { page = page; list = list; table = table }) f
no_list x page list table f paged (is, part) no_table =
    subst (StopsWriting x (record { page = page; list = list; table = table })) (sym is) (paged, part, no_table)

-- ---- the notes of a call

-- there is an order of the ship exactly where a message is asked for
pub ship_given : (chosen : InputChosen) (source : SourceSeen) (asked : Bool) (message : SourceSeen) (yard : Inventory) (ship : Option Ship)
    → IsFollowInput chosen source (if_asked asked message) yard ship → is_some ship ≡ asked
ship_given chosen source true message yard (Some ship) input = refl
ship_given chosen source false message yard None input = refl
ship_given chosen source true message yard None input = absurd input
ship_given chosen source false message yard (Some ship) input = absurd input

-- notes of a report whose message is asked for so
pub noted_so : (ship : Option Ship) (asked : Bool) (s : SinkSeen) → is_some ship ≡ asked → IsNotedBy (not (is_some ship)) s → IsNotedBy (not asked) s
noted_so ship asked s is noted = subst (λ (b : Bool). IsNotedBy (not b) s) is noted

-- ---- how a call ends

-- the sources had an input and a report: what comes of the texts of its part is what comes of the call
pub texts_of_call : (chosen : FollowChosen) (ship : Option Ship) (yard : Inventory) (report : List ℕ) (numbers stated : Numbers) (bays part : List BayFollowed) (x : Texts) (asked : Bool) (sink : SinkSeen)
    → IsLoaded ship yard report numbers bays → first_unstated chosen.part bays ≡ None → stated ≡ numbers → part ≡ bays_of_part chosen.part bays
    → x.page ≡ page_text yard (numbers_for ship yard stated) (order_for ship) part → (IsTrue asked → IsPartedList chosen.separator yard (made_for ship chosen.loaded part) x.list)
    → x.table ≡ with_separator chosen.separator (table_for chosen.summary ship part) → AreTextsOf chosen ship yard report (is_some (if_asked asked sink)) x
texts_of_call chosen ship yard report numbers stated bays part x asked sink loaded named same is page list table = record {
  numbers = numbers;
  bays = bays;
  is_loaded = loaded;
  stated = named;
  page = page ∙ ap (λ (n : Numbers). page_text yard (numbers_for ship yard n) (order_for ship) part) same ∙ ap (λ (l : List BayFollowed). page_text yard (numbers_for ship yard numbers) (order_for ship) l) is;
  list = λ wanted. subst (λ (l : List BayFollowed). IsPartedList chosen.separator yard (made_for ship chosen.loaded l) x.list) is (list (subst (λ (b : Bool). IsTrue b) (asked_some asked sink) wanted));
  table = table ∙ ap (λ (l : List BayFollowed). with_separator chosen.separator (table_for chosen.summary ship l)) is;
}

-- the report of a text that the source had
pub given_as : (partial : Bool) (given : Option (List ℕ)) (text whole report : List ℕ) (bays : Option ℕ) → report ≡ whole → IsTextOf given text → IsReportIn partial text whole bays
    → (text : List ℕ) × (bays : Option ℕ) × IsTextOf given text × IsReportIn partial text report bays
given_as partial given text whole report bays e is in_it = (text, bays, is, subst (λ l. IsReportIn partial text l bays) (sym e) in_it)
