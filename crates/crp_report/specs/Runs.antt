-- A run from the bytes of a yard list and of a message to a report, certificates and the yard after: what it saw, what it wrote, and what each
-- fault states.
use Rattle.std.specs.Prelude.{◌≡◌, ◌≢◌, ℕ, ◌+◌, ◌-◌, ◌≤◌, ◌⊎◌, List, ◌++◌, length, Option, None, Some}
use Rattle.std.specs.Io.KnownBytes.{Appends, Keeps}
use Rattle.crp_plan.specs.Devices.{AppendsFront, AppendsPart, HasFailed, most_interruptions}
use Rattle.edi_text.specs.Parts.{SegmentParts}
use Rattle.edi_text.specs.Spelling.{Spells}
use Rattle.edi_text.specs.FirstFault.{IsFirstFault}
use Rattle.edi_text.specs.declared.fault.EdiFault.TheVariants as edi
use Rattle.crp_movins.specs.Loading.{Loading}
use Rattle.crp_movins.specs.LoadOrders.{LoadOrders, load_orders_of}
use Rattle.crp_movins.specs.Faults.{first_fault}
use Rattle.crp_movins.specs.declared.fault.MovinsFault.TheVariants as movins
use Rattle.crp_yard.specs.Inventory.{Inventory}
use Rattle.crp_yard.specs.Faults.{fault_of_text}
use Rattle.crp_yard.specs.Reading.{IsTextOf, IsYardListOf}
use Rattle.crp_yard.specs.declared.fault.YardFault.TheVariants as yard_fault
use Rattle.crp_order.specs.OfBays.{IsSequenceOf}
use Rattle.crp_order.specs.BayProblems.{problems_of, absent_of}
use Rattle.crp_said.specs.declared.numbers.Numbers.{Numbers}
use Rattle.crp_said.specs.Said.{counts_line}
use Rattle.crp_report.specs.declared.fault.Fault.{Fault}
use Rattle.crp_report.specs.declared.fault.Fault.TheVariants as fault
use Rattle.crp_report.specs.declared.fault.Input.{Input}
use Rattle.crp_report.specs.declared.fault.Input.TheVariants as input
use Rattle.crp_report.specs.declared.fault.Output.{Output}
use Rattle.crp_report.specs.declared.fault.Output.TheVariants as output
use Rattle.crp_report.specs.declared.status.Status.{Status}
use Rattle.crp_report.specs.Answered.{Answered, AreTrueAnswers, status_of_all}
use Rattle.crp_report.specs.Chosen.{RunChosen}
use Rattle.crp_report.specs.Report.{IsReport, certificates_text, IsYardTextAfter}
use Rattle.crp_report.specs.Pieces.{Piece, ArePieces, bytes_for, Stop, wanted, written}

-- what a call saw of a source: the bytes that it had, and its count of failures before and after
pub record SourceSeen : Type 0 where
  pub given : Option (List ℕ)
  pub before : ℕ
  pub after : ℕ

-- what a call saw of a sink: what it held before and holds after, and its count of failures before and after
pub record SinkSeen : Type 0 where
  pub held : Option (List ℕ)
  pub holds : Option (List ℕ)
  pub before : ℕ
  pub after : ℕ

-- so it is of a value of a source, and of one of a sink, by what each value states
abbrev pub source_seen : {S : Type 0} → (S → Option (List ℕ)) → (S → ℕ) → S → S → SourceSeen
source_seen remaining failures old new = record { given = remaining old; before = failures old; after = failures new }

abbrev pub sink_seen : {S : Type 0} → (S → Option (List ℕ)) → (S → ℕ) → S → S → SinkSeen
sink_seen contents failures old new = record { held = contents old; holds = contents new; before = failures old; after = failures new }

-- what a run saw of its two sources and three sinks, and the byte between the fields of the yard after
pub record RunSeen : Type 0 where
  pub yard : SourceSeen
  pub movins : SourceSeen
  pub report : SinkSeen
  pub certificates : SinkSeen
  pub yard_after : SinkSeen
  pub separator : ℕ

-- the text is a yard list, of bays of the chosen sizes
abbrev pub IsListed : RunChosen → List ℕ → Inventory → Type 0
IsListed chosen text yard = IsYardListOf chosen.input.sizes text yard

-- the text is an interchange, and these are the load orders that are read of it
pub record AreOrders (loading : Loading) (text : List ℕ) (orders : LoadOrders) : Type 0 where
  pub segments : List SegmentParts
  pub spelled : Spells text segments
  pub faultless : first_fault segments loading ≡ None
  pub orders_are : orders ≡ load_orders_of segments loading

-- the numbers of a yard, the load orders and their sequence
abbrev pub numbers_of : Inventory → LoadOrders → List (List ℕ) → Numbers
numbers_of yard orders sequence = record { orders = length orders.list; vacant = orders.vacant; absent = absent_of yard sequence }

-- the first line of the report
abbrev pub first_line : Inventory → LoadOrders → List (List ℕ) → List ℕ
first_line yard orders sequence = counts_line (numbers_of yard orders sequence)

-- what a run makes of its input: the two texts that were read, what they say, an answer for each bay problem, and three texts
pub record Made : Type 0 where
  pub list : List ℕ
  pub message : List ℕ
  pub yard : Inventory
  pub orders : LoadOrders
  pub sequence : List (List ℕ)
  pub answered : List Answered
  pub report : List ℕ
  pub certificates : List ℕ
  pub yard_after : List ℕ

-- the texts are those that the sources had, both are accepted, the answers are true, and one list of answers gives all three texts
pub record IsMade (chosen : RunChosen) (s : RunSeen) (m : Made) : Type 0 where
  pub given_list : IsTextOf s.yard.given m.list
  pub given_message : IsTextOf s.movins.given m.message
  pub listed : IsListed chosen m.list m.yard
  pub ordered : AreOrders chosen.input.loading m.message m.orders
  pub in_sequence : IsSequenceOf chosen.input.mode chosen.input.bays m.yard m.orders.list m.sequence
  pub true_answers : AreTrueAnswers chosen.search (problems_of m.yard m.sequence) m.answered
  pub report : IsReport (numbers_of m.yard m.orders m.sequence) m.answered m.report
  pub certificates : m.certificates ≡ certificates_text m.answered
  pub yard_after : IsYardTextAfter s.separator m.yard m.answered m.yard_after

-- the sink got this text, and nothing else
abbrev pub Gets : SinkSeen → List ℕ → Type 0
Gets s text = Appends s.held s.holds text

-- the sink got a front of this text, and nothing else
abbrev pub GetsFront : SinkSeen → List ℕ → Type 0
GetsFront s text = AppendsFront s.held s.holds text

-- the sink got a front of this text that is not all of it, and nothing else
abbrev pub GetsPart : SinkSeen → List ℕ → Type 0
GetsPart s text = AppendsPart s.held s.holds text

-- the sink got nothing
abbrev pub GetsNothing : SinkSeen → Type 0
GetsNothing s = Keeps s.held s.holds

-- each sink got its text, and the status says how the searches ended together
abbrev pub WritesTexts : RunChosen → RunSeen → Status → Type 0
WritesTexts chosen s status = (m : Made) × IsMade chosen s m × (status ≡ status_of_all m.answered)
    × Gets s.report m.report × Gets s.certificates m.certificates × Gets s.yard_after m.yard_after

-- what was seen of a source, and of a sink
abbrev pub source_of : RunSeen → Input → SourceSeen
source_of s input.Yard = s.yard
source_of s input.Movins = s.movins

abbrev pub sink_of : RunSeen → Output → SinkSeen
sink_of s output.Report = s.report
sink_of s output.Certificates = s.certificates
sink_of s output.YardAfter = s.yard_after

-- the text of a run that goes to a sink
abbrev pub text_for : Made → Output → List ℕ
text_for m output.Report = m.report
text_for m output.Certificates = m.certificates
text_for m output.YardAfter = m.yard_after

-- the pieces for each sink are together the text that goes to it
abbrev pub MakeUpTexts : Made → List Piece → Type 0
MakeUpTexts m pieces = (each : Output) → bytes_for each pieces ≡ text_for m each

-- these are the pieces of a run, and they make up its texts
abbrev pub AreMadePieces : Made → List Piece → Type 0
AreMadePieces m pieces = ArePieces (first_line m.yard m.orders m.sequence) m.answered m.yard_after pieces × MakeUpTexts m pieces

-- the writing of the three texts stopped within a piece for this sink: each sink got what goes to it of the pieces before and of a front of this one,
-- which is not all of it, and nothing else
abbrev pub StopsAt : Made → RunSeen → Output → Type 0
StopsAt m s sink = (stop : Stop) × AreMadePieces m (wanted stop) × (stop.failed.to ≡ sink) × ((each : Output) → Gets (sink_of s each) (bytes_for each (written stop)))

-- each sink got a front of its text, and this one not all of it, as far as the pieces were written when the writing stopped within one for this sink
abbrev pub WritesFronts : RunChosen → RunSeen → Output → Type 0
WritesFronts chosen s sink = (m : Made) × IsMade chosen s m × ((each : Output) → GetsFront (sink_of s each) (text_for m each))
    × GetsPart (sink_of s sink) (text_for m sink) × StopsAt m s sink

-- each sink got a front of its text: what goes to it of the pieces so far, each of them whole, and nothing else
abbrev pub WritesSoFar : RunChosen → RunSeen → Type 0
WritesSoFar chosen s = (m : Made) × IsMade chosen s m × ((each : Output) → GetsFront (sink_of s each) (text_for m each))
    × ((done : List Piece) × (behind : List Piece) × AreMadePieces m (done ++ behind) × ((each : Output) → Gets (sink_of s each) (bytes_for each done)))

-- no sink got anything
abbrev pub WritesNothing : RunSeen → Type 0
WritesNothing s = GetsNothing s.report × GetsNothing s.certificates × GetsNothing s.yard_after

-- the yard list that the source had is accepted
abbrev pub IsYardAccepted : RunChosen → RunSeen → Type 0
IsYardAccepted chosen s = (text : List ℕ) × (yard : Inventory) × IsTextOf s.yard.given text × IsListed chosen text yard

-- before the message is looked at the yard list is accepted
abbrev pub IsInputBeforeAccepted : RunChosen → RunSeen → Input → Type 0
IsInputBeforeAccepted chosen s input.Yard = Unit {0}
IsInputBeforeAccepted chosen s input.Movins = IsYardAccepted chosen s

-- so many calls of the devices have failed in the run
abbrev pub run_failures : RunSeen → ℕ
run_failures s = (s.yard.after - s.yard.before) + ((s.movins.after - s.movins.before) + ((s.report.after - s.report.before)
    + ((s.certificates.after - s.certificates.before) + (s.yard_after.after - s.yard_after.before))))

-- so many failed calls a fault states: one where a read or a write has failed, else none
abbrev pub failures_of_fault : Fault → ℕ
failures_of_fault (fault.Read source) = 1
failures_of_fault (fault.Write sink) = 1
failures_of_fault f = 0

-- so many calls fail at most in a run that states this fault: those that are passed over, and the one that is stated
abbrev pub most_run_failures : Fault → ℕ
most_run_failures f = most_interruptions + failures_of_fault f

-- what a fault states: the first fault of the yard list; where that has none, the first fault of the interchange or of its message; a read or a
-- write that has failed in this call; or lack of memory. Something may have been written only where a write failed: fronts of the three texts, up to
-- that write, and not all of the text whose write failed; or where memory ran out behind the input: the pieces up to there.
abbrev pub RunFailsWith : RunChosen → RunSeen → Fault → Type 0
RunFailsWith chosen s (fault.Yard f) = WritesNothing s × (f ≢ yard_fault.Read) × (f ≢ yard_fault.Memory)
    × ((text : List ℕ) × IsTextOf s.yard.given text × (fault_of_text chosen.input.sizes text ≡ Some f))
RunFailsWith chosen s (fault.Interchange f) = WritesNothing s × (f ≢ edi.Memory) × IsYardAccepted chosen s
    × ((text : List ℕ) × IsTextOf s.movins.given text × IsFirstFault text f)
RunFailsWith chosen s (fault.Message f) = WritesNothing s × (f ≢ movins.Memory) × IsYardAccepted chosen s
    × ((text : List ℕ) × (segments : List SegmentParts) × IsTextOf s.movins.given text × Spells text segments × (first_fault segments chosen.input.loading ≡ Some f))
RunFailsWith chosen s (fault.Read source) = WritesNothing s × IsInputBeforeAccepted chosen s source × HasFailed (source_of s source).before (source_of s source).after
RunFailsWith chosen s (fault.Write sink) = WritesFronts chosen s sink × HasFailed (sink_of s sink).before (sink_of s sink).after
RunFailsWith chosen s fault.Memory = WritesNothing s ⊎ WritesSoFar chosen s

-- a run over these devices ended with the status: its texts were written, and no more calls failed than may be passed over
abbrev pub RunEnds : RunChosen → RunSeen → Status → Type 0
RunEnds chosen s ended = WritesTexts chosen s ended × (run_failures s ≤ most_interruptions)

-- a run over these devices ended with the fault: it is as stated, and no more calls failed than may be passed over and the one that is stated
abbrev pub RunFails : RunChosen → RunSeen → Fault → Type 0
RunFails chosen s f = RunFailsWith chosen s f × (run_failures s ≤ most_run_failures f)
