-- How a run states what went wrong in a layer below, and the texts that it keeps of a bay. Only private clauses speak of it.
use Rattle.std.specs.Prelude.{◌≡◌, ◌≢◌, ℕ, ◌+◌, ◌≤◌, List, Option, Some, flat_map}
use Rattle.crp_plan.specs.Devices.{HasFailed}
use Rattle.crp_sizes.specs.Sizes.{YardSizes}
use Rattle.crp_yard.specs.declared.fault.YardFault.{YardFault}
use Rattle.crp_yard.specs.declared.fault.YardFault.TheVariants as yard_fault
use Rattle.crp_yard.specs.Reading.{IsTextOf}
use Rattle.crp_yard.specs.Faults.{fault_of_text}
use Rattle.edi_text.specs.Parts.{SegmentParts}
use Rattle.edi_text.specs.Spelling.{Spells}
use Rattle.edi_text.specs.FirstFault.{IsFirstFault}
use Rattle.edi_text.specs.declared.fault.EdiFault.{EdiFault}
use Rattle.edi_text.specs.declared.fault.EdiFault.TheVariants as edi
use Rattle.crp_movins.specs.Loading.{Loading}
use Rattle.crp_movins.specs.Faults.{first_fault}
use Rattle.crp_movins.specs.declared.fault.MovinsFault.{MovinsFault}
use Rattle.crp_movins.specs.declared.fault.MovinsFault.TheVariants as movins
use Rattle.crp_report.specs.declared.fault.Fault.{Fault}
use Rattle.crp_report.specs.declared.fault.Fault.TheVariants as fault
use Rattle.crp_report.specs.declared.fault.Input.TheVariants as input
use Rattle.crp_report.specs.declared.fault.Output.{Output}
use Rattle.crp_report.specs.declared.bay_texts.BayTexts.{BayTexts}
use Rattle.crp_report.specs.Answered.{Answered}
use Rattle.crp_report.specs.Report.{AreBayLines, certificate_of}

-- the fault of a yard list, of an interchange and of a message, as a run states it
abbrev pub fault_of_yard : YardFault → Fault
fault_of_yard yard_fault.Read = fault.Read input.Yard
fault_of_yard yard_fault.Memory = fault.Memory
fault_of_yard f = fault.Yard f

abbrev pub fault_of_interchange : EdiFault → Fault
fault_of_interchange edi.Memory = fault.Memory
fault_of_interchange f = fault.Interchange f

abbrev pub fault_of_message : MovinsFault → Fault
fault_of_message movins.Memory = fault.Memory
fault_of_message f = fault.Message f

-- the calls of a device that have failed are no more than the interruptions that were counted, and so many besides
abbrev pub AreFailuresCounted : ℕ → ℕ → ℕ → ℕ → ℕ → Type 0
AreFailuresCounted besides failed_before failed_after counted_before counted_after = failed_after + counted_before ≤ failed_before + counted_after + besides

-- a write to this sink has failed, by its counts of failures
abbrev pub IsWriteOf : Output → ℕ → ℕ → Fault → Type 0
IsWriteOf sink before after f = (f ≡ fault.Write sink) × HasFailed before after

-- why no yard of bays of these sizes was read of a source that had these bytes, with its count of failures before and after
abbrev pub IsNoYard : YardSizes → Option (List ℕ) → ℕ → ℕ → Fault → Type 0
IsNoYard sizes given before after (fault.Yard f) = (f ≢ yard_fault.Read) × (f ≢ yard_fault.Memory)
    × ((text : List ℕ) × IsTextOf given text × (fault_of_text sizes text ≡ Some f))
IsNoYard sizes given before after (fault.Read input.Yard) = HasFailed before after
IsNoYard sizes given before after fault.Memory = Unit {0}
IsNoYard sizes given before after f = ⊥

-- why of this text no load orders are read
abbrev pub IsNoOrders : Loading → List ℕ → Fault → Type 0
IsNoOrders loading text (fault.Interchange f) = (f ≢ edi.Memory) × IsFirstFault text f
IsNoOrders loading text (fault.Message f) = (f ≢ movins.Memory) × ((segments : List SegmentParts) × Spells text segments × (first_fault segments loading ≡ Some f))
IsNoOrders loading text fault.Memory = Unit {0}
IsNoOrders loading text f = ⊥

-- why no load orders were read of a source that had these bytes, with its count of failures before and after
abbrev pub IsNoMessage : Loading → Option (List ℕ) → ℕ → ℕ → Fault → Type 0
IsNoMessage loading given before after (fault.Interchange f) = (text : List ℕ) × IsTextOf given text × IsNoOrders loading text (fault.Interchange f)
IsNoMessage loading given before after (fault.Message f) = (text : List ℕ) × IsTextOf given text × IsNoOrders loading text (fault.Message f)
IsNoMessage loading given before after (fault.Read input.Movins) = HasFailed before after
IsNoMessage loading given before after fault.Memory = Unit {0}
IsNoMessage loading given before after f = ⊥

-- these are the texts of an answered bay
pub record AreTextsOfBay (bay : Answered) (t : BayTexts) : Type 0 where
  pub report : AreBayLines bay t.report.items
  pub certificate : flat_map (λ share. share.items) t.certificate.items ≡ certificate_of bay
