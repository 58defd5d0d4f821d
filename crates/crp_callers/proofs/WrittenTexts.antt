-- What the commands `absent`, `audit` and `follow` say of lists of bytes.
use Rattle.std.proofs.Common.{◌≡◌, ◌≢◌, ◌≤◌, ◌∙◌, ℕ, Bool, false, List, [], length, Some, None, Option, Result, Ok, Err, refl, ap, subst, sym}
use Rattle.std.specs.Prelude.{MatchResult, OnOk, IsTrue, is_some}
use Rattle.std.specs.Io.KnownBytes.{Appends}
use Rattle.std.specs.List.{AllByRecursion}
use Rattle.crp_plan.specs.BayNames.{YardBay}
use Rattle.crp_yard.specs.Inventory.{Inventory}
use Rattle.crp_yard.specs.Naming.{IsNamedBay}
use Rattle.crp_yard.specs.Reading.{IsTextOf, IsYardListOf}
use Rattle.crp_movins.specs.LoadOrders.{LoadOrders}
use Rattle.crp_checker.specs.declared.verdict.Verdict.{Verdict}
use Rattle.crp_said.specs.Spelled.{most, AreSmall}
use Rattle.crp_follow.specs.Behind.{IsListBehind, Made}
use Rattle.crp_follow.specs.Unstated.{bays_of_part}
use Rattle.crp_separated.specs.Inputs.{with_separator}
use Rattle.crp_follow.specs.Followed.{IsFollowed}
use Rattle.crp_report.specs.Chosen.{InputChosen}
use Rattle.crp_report.specs.Runs.{SourceSeen, SinkSeen, AreOrders, Gets}
use Rattle.crp_audit.specs.declared.fault.AuditFault.{AuditFault}
use Rattle.crp_audit.specs.declared.fault.AuditFault.TheVariants as wrong
use Rattle.crp_audit.specs.Faults.{IsAuditRefusal, IsFirstFault}
use Rattle.crp_audit.specs.Headline.{Reported, numbers_in, Handed, handed, IsHeadline, shown_in}
use Rattle.crp_jobs.specs.declared.outcome.ToolFault.{ToolFault}
use Rattle.crp_jobs.specs.declared.outcome.ToolFault.TheVariants as fault
use Rattle.crp_order.specs.Absences.{absent_text}
use Rattle.crp_commands.specs.Absent.{AbsentChosen, AbsentSeen, Lists}
use Rattle.crp_commands.specs.Audit.{AuditChosen, AuditSeen, Audits, AuditFailsWith, IsHandedIn, IsInputOf, audit_text}
use Rattle.crp_commands.specs.Partial.{IsReportIn, part_of}
use Rattle.crp_commands.specs.Follow.{FollowChosen, FollowSeen, Follows, IsFollowInput, IsPartedList, Ship, WritesTexts, WritesWhole, made_for, table_for}
use Rattle.crp_callers.specs.CommandReports.{AreInput, HoldsOfTexts, IsFollowedWhole, IsWhole}

pub on_ok : {T E : Type 0} (r : Result T E) (P : T → Type 0) (Q : E → Type 0) (R : Type 0) → MatchResult r P Q → ((x : T) → P x → R) → OnOk r R
on_ok (Ok x) P Q R is by = by x is
on_ok (Err e) P Q R is by = tt

-- ---- sources that had these bytes, and sinks that were empty

given_is : (given : Option (List ℕ)) (bytes text : List ℕ) → given ≡ Some bytes → IsTextOf given text → text ≡ bytes
given_is given bytes text e is = subst (λ (o : Option (List ℕ)). IsTextOf o text) e is

-- a sink that was empty, and holds these bytes
pub record IsFilled (s : SinkSeen) (bytes : List ℕ) : Type 0 where
  pub held : s.held ≡ Some []
  pub holds : s.holds ≡ Some bytes

pub got : (s : SinkSeen) (bytes text : List ℕ) → IsFilled s bytes → Gets s text → bytes ≡ text
got s bytes text filled gets =
    let behind = subst (λ (o : Option (List ℕ)). Appends o s.holds text) filled.held gets in
    subst (λ (o : Option (List ℕ)). Appends (Some []) o text) filled.holds behind

-- ---- what a yard list and a message say

input_is : (chosen : InputChosen) (listing messages : SourceSeen) (list message : List ℕ) (yard : Inventory) (orders : LoadOrders) (sequence : List (List ℕ))
    → listing.given ≡ Some list → messages.given ≡ Some message → IsInputOf chosen listing messages yard orders sequence → AreInput chosen list message yard orders sequence
input_is chosen listing messages list message yard orders sequence e f is = record {
  listed = subst (λ (t : List ℕ). IsYardListOf chosen.sizes t yard) (given_is listing.given list is.list e is.given_list) is.listed;
  ordered = subst (λ (t : List ℕ). AreOrders chosen.loading t orders) (given_is messages.given message is.message f is.given_message) is.ordered;
  in_sequence = is.in_sequence;
}

-- ---- `absent`

-- a list of absent containers with commas
abbrev with_commas : InputChosen → AbsentChosen
with_commas chosen = record { input = chosen; separator = 44 }

pub absent_listed : (chosen : InputChosen) (s : AbsentSeen) (list message text : List ℕ) → s.yard.given ≡ Some list → s.movins.given ≡ Some message → IsFilled s.out text
    → Lists (with_commas chosen) s → (yard : Inventory) × (orders : LoadOrders) × IsYardListOf chosen.sizes list yard × AreOrders chosen.loading message orders
    × (text ≡ absent_text yard orders.list)
absent_listed chosen s list message text e f filled (said, (yard, orders, sequence, input, is), gets) =
    let are = input_is chosen s.yard s.movins list message yard orders sequence e f input in
    (yard, orders, are.listed, are.ordered, got s.out text said filled gets ∙ is)

-- ---- `audit`

-- the four texts that an audit had
pub record AreAudited (s : AuditSeen) (list message report certificates : List ℕ) : Type 0 where
  pub list_given : s.yard.given ≡ Some list
  pub message_given : s.movins.given ≡ Some message
  pub report_given : s.report.given ≡ Some report
  pub certificates_given : s.certificates.given ≡ Some certificates

-- what holds of what is handed in holds of it with these names for its texts
handed_at : (P : Handed → Type 0) (h : Handed) (report certificates : List ℕ) → h.report ≡ report → h.certificates ≡ certificates → P h
    → P (handed h.yard h.orders h.sequence report certificates)
handed_at P h report certificates e f is =
    subst (λ (c : List ℕ). P (handed h.yard h.orders h.sequence report c)) f (subst (λ (r : List ℕ). P (handed h.yard h.orders h.sequence r h.certificates)) e is)

-- a report that may not end early is audited as it is, by the whole sequence
abbrev whole : InputChosen → AuditChosen
whole chosen = record { input = chosen; partial = false }

whole_input : (chosen : InputChosen) (s : AuditSeen) (h : Handed) → IsHandedIn (whole chosen) s h → IsInputOf chosen s.yard s.movins h.yard h.orders h.sequence
whole_input chosen s h is =
    let all : h.sequence ≡ is.sequence = is.part ∙ ap (λ bays. part_of bays h.yard is.sequence) is.report.1 in subst (IsInputOf chosen s.yard s.movins h.yard h.orders) (sym all) is.input

pub audited : (chosen : InputChosen) (s : AuditSeen) (list message report certificates text : List ℕ) → AreAudited s list message report certificates → IsFilled s.out text
    → Audits (whole chosen) s → HoldsOfTexts chosen list message report certificates (λ h. (is : IsHeadline h) × (text ≡ audit_text (shown_in h is)))
audited chosen s list message report certificates text over filled (h, in_hand, few, headline) =
    let input = input_is chosen s.yard s.movins list message h.yard h.orders h.sequence over.list_given over.message_given (whole_input chosen s h in_hand) in
    let says = in_hand.report.0 ∙ given_is s.report.given report in_hand.text over.report_given in_hand.given.1 in
    let shows = given_is s.certificates.given certificates h.certificates over.certificates_given in_hand.certificates in
    let is : (is : IsHeadline h) × (text ≡ audit_text (shown_in h is)) = (headline.0, got s.out text _ filled headline.1) in
    (h.yard, h.orders, h.sequence, input, handed_at (λ (g : Handed). (is : IsHeadline g) × (text ≡ audit_text (shown_in g is))) h report certificates says shows is)

-- no headline has a first fault, but that memory runs out, by the law
abbrev pub NoneHasFault : Type 0
NoneHasFault = (h : Handed) (is : IsHeadline h) (before : List Reported) (f : AuditFault) → AllByRecursion IsNamedBay h.yard.bays → length h.yard.bays ≤ most
    → AreSmall (numbers_in h) → f ≢ wrong.Memory → ¬ IsFirstFault h before f

-- this is the first fault of what is handed in, behind what these bays show, and then it is no headline
abbrev pub IsRefused : AuditFault → Handed → Type 0
IsRefused f h = (before : List (YardBay × Verdict)) × IsAuditRefusal h before f
    × (AllByRecursion IsNamedBay h.yard.bays → length h.yard.bays ≤ most → AreSmall (numbers_in h) → f ≢ wrong.Memory → ¬ IsHeadline h)

pub refused_texts : NoneHasFault → (chosen : InputChosen) (s : AuditSeen) (list message report certificates : List ℕ) (x : ToolFault) (f : AuditFault) → x ≡ fault.Audited f
    → AreAudited s list message report certificates → AuditFailsWith (whole chosen) s x → HoldsOfTexts chosen list message report certificates (IsRefused f)
refused_texts law chosen s list message report certificates x f e over fails =
    let (h, in_hand, (memory, (shown, refusal, gets))) = subst (AuditFailsWith (whole chosen) s) e fails in
    let input = input_is chosen s.yard s.movins list message h.yard h.orders h.sequence over.list_given over.message_given (whole_input chosen s h in_hand) in
    let says = in_hand.report.0 ∙ given_is s.report.given report in_hand.text over.report_given in_hand.given.1 in
    let shows = given_is s.certificates.given certificates h.certificates over.certificates_given in_hand.certificates in
    let is : IsRefused f h = (shown, refusal, λ named few small other headline. law h headline refusal.before f named few small other refusal.first) in
    (h.yard, h.orders, h.sequence, input, handed_at (IsRefused f) h report certificates says shows is)

-- ---- `follow`

-- the three texts that a call of `follow` had, and what its three sinks got
pub record AreFollowed (s : FollowSeen) (list message report page left table : List ℕ) : Type 0 where
  pub messages : SourceSeen
  pub pages : SinkSeen
  pub lists : SinkSeen
  pub list_given : s.yard.given ≡ Some list
  pub asked : s.movins ≡ Some messages
  pub message_given : messages.given ≡ Some message
  pub report_given : s.report.given ≡ Some report
  pub page_wanted : s.texts.page ≡ Some pages
  pub list_wanted : s.texts.list ≡ Some lists
  pub page_got : IsFilled pages page
  pub list_got : IsFilled lists left
  pub table_got : IsFilled s.texts.table table

-- a list with commas is the list
parted : (separator : ℕ) → separator ≡ 44 → (yard : Inventory) (made : List Made) (text : List ℕ) → IsPartedList separator yard made text → IsPartedList 44 yard made text
parted separator commas yard made text is = subst (λ (n : ℕ). IsPartedList n yard made text) commas is

-- what the texts of a report are that were written
whole_texts : (chosen : FollowChosen) (s : FollowSeen) (list message report page left table : List ℕ) (yard : Inventory) (ship : Ship) (said : List ℕ)
    → AreFollowed s list message report page left table → said ≡ report → AreInput chosen.input list message yard ship.0 ship.1
    → WritesTexts chosen (Some ship) yard said s.texts → chosen.summary ≡ false → chosen.separator ≡ 44 → IsWhole chosen.part yard ship.0 ship.1 chosen.loaded report page left table
whole_texts chosen s list message report page left table yard ship said over same input (x, are, writes) moves commas =
    let paged = subst (λ (o : Option SinkSeen). WritesWhole x.page o) over.page_wanted writes.0 in
    let listed = subst (λ (o : Option SinkSeen). WritesWhole x.list o) over.list_wanted writes.1 in
    let (own, behind, same_list) = parted chosen.separator commas yard _ x.list (are.list (subst (λ (o : Option SinkSeen). IsTrue (is_some o)) (sym over.list_wanted) refl)) in record {
      numbers = are.numbers;
      bays = are.bays;
      follows = subst (λ (t : List ℕ). IsFollowed yard t are.numbers are.bays) same are.is_loaded.0;
      page_is = got over.pages page _ over.page_got paged ∙ are.page;
      stated = are.stated;
      left_is = subst (IsListBehind yard (made_for (Some ship) chosen.loaded (bays_of_part chosen.part are.bays))) (sym (got over.lists left _ over.list_got listed ∙ same_list)) behind;
      table_is = got s.texts.table table _ over.table_got writes.2 ∙ are.table ∙ ap (λ (b : Bool). with_separator chosen.separator (table_for b (Some ship) (bays_of_part chosen.part are.bays))) moves
          ∙ ap (λ (n : ℕ). with_separator n (table_for false (Some ship) (bays_of_part chosen.part are.bays))) commas;
    }

whole_for : (chosen : FollowChosen) (s : FollowSeen) (list message report page left table : List ℕ) (yard : Inventory) (ship : Option Ship) (said : List ℕ)
    → (over : AreFollowed s list message report page left table) → said ≡ report → IsFollowInput chosen.input s.yard (Some over.messages) yard ship
    → WritesTexts chosen ship yard said s.texts → chosen.summary ≡ false → chosen.separator ≡ 44 → IsFollowedWhole chosen.input chosen.part chosen.loaded list message report page left table
whole_for chosen s list message report page left table yard None said over same input writes moves commas = absurd input
whole_for chosen s list message report page left table yard (Some ship) said over same input writes moves commas =
    let says = input_is chosen.input s.yard over.messages list message yard ship.0 ship.1 over.list_given over.message_given input in
    (yard, ship.0, ship.1, says, whole_texts chosen s list message report page left table yard ship said over same says writes moves commas)

pub followed_whole : (chosen : FollowChosen) (s : FollowSeen) → chosen.partial ≡ false → chosen.summary ≡ false → chosen.separator ≡ 44 → (list message report page left table : List ℕ) → AreFollowed s list message report page left table
    → Follows chosen s → IsFollowedWhole chosen.input chosen.part chosen.loaded list message report page left table
followed_whole chosen s plain moves commas list message report page left table over (yard, ship, said, given, writes) =
    let (text, bays, is, in_it) = given.report_given in
    let same : said ≡ text = (subst (λ p. IsReportIn p text said bays) plain in_it).0 in
    whole_for chosen s list message report page left table yard ship said over (same ∙ given_is s.report.given report text over.report_given is)
    (subst (λ (o : Option SourceSeen). IsFollowInput chosen.input s.yard o yard ship) over.asked given.input)
    writes moves commas
