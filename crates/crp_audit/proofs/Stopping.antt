-- Why an audit stops at a certificate.
use Rattle.std.proofs.Common.{◌≡◌, ◌≢◌, ℕ, List, [], ◌++◌, Option, Some, refl}
use Rattle.crp_plan.specs.Devices.{Transfers, failures_of_read}
use Rattle.crp_plan.specs.declared.transfer.ReadFault.{ReadFault}
use Rattle.crp_plan.specs.declared.transfer.ReadFault.TheVariants as read
use Rattle.crp_order.specs.declared.bay_problem.BayProblem.{BayProblem}
use Rattle.crp_cert.specs.declared.script.Script.{Script}
use Rattle.crp_checker.specs.declared.refused.Refused.{Refused}
use Rattle.crp_checker.specs.declared.refused.Refused.TheVariants as refused
use Rattle.crp_checker.specs.declared.unread.Unread.{Unread}
use Rattle.crp_checker.specs.AcceptedTexts.{IsAcceptedText}
use Rattle.crp_checker.specs.Refusals.{IsRefusal}
use Rattle.crp_checker.specs.Reading.{IsLeft, IsSpent, AreTaken, IsTaken, IsTooLong}
use Rattle.crp_checker.proofs.Taken.{nothing_left}
use Rattle.crp_plan.specs.BayNames.{YardBay}
use Rattle.crp_said.specs.declared.said.Said.{Said}
use Rattle.crp_audit.specs.declared.fault.AuditFault.TheVariants as fault
use Rattle.crp_audit.specs.declared.fault.AuditStop.TheVariants as stop
use Rattle.crp_audit.specs.Certified.{SaysThis, IsCertificateFault}
use Rattle.crp_audit.specs.Stops.{StopsAt, failures_of_stop, of_read}

-- so many calls fail
pub stop_fails : {i j f g : ℕ} {x y : Option ℕ} (why : ReadFault) → Transfers (failures_of_read why) i j f g x y → Transfers (failures_of_stop (of_read why)) i j f g x y
stop_fails read.Failed t = t
stop_fails read.TooLarge t = t
stop_fails read.Memory t = t

-- the source does not give them
pub read_stops : (known : Option (List ℕ)) (u : Unread) (stated : BayProblem) (said : Said) (rows : List ℕ) (why : ReadFault) → (left : List ℕ) × IsLeft known u left → (why ≡ read.TooLarge → IsTooLong known u)
    → StopsAt known u (IsCertificateFault stated said rows) (of_read why)
read_stops known u stated said rows read.Failed some long = tt
read_stops known u stated said rows read.TooLarge some long = long refl
read_stops known u stated said rows read.Memory (left, is) long = (left, is, refl)

pub memory_stops : (known : Option (List ℕ)) (u : Unread) (stated : BayProblem) (said : Said) (rows : List ℕ) → (left : List ℕ) × IsLeft known u left
    → StopsAt known u (IsCertificateFault stated said rows) (stop.Fault fault.Memory)
memory_stops known u stated said rows (left, is) = (left, is, refl)

-- none is left
pub lacking_stops : (known later : Option (List ℕ)) (u v : Unread) (stated : BayProblem) (said : Said) (rows : List ℕ) (bay : YardBay) → bay ≡ stated.bay → AreTaken known u [] later v → IsSpent v
    → StopsAt known u (IsCertificateFault stated said rows) (stop.Fault (fault.Lacking bay))
lacking_stops known later u v stated said rows bay name took spent =
    let (left, is) = took.some in (left, took.before left is, (name, nothing_left later v left spent is))

-- the next is refused
pub refused_stops : (known later : Option (List ℕ)) (u v : Unread) (stated : BayProblem) (said : Said) (rows text : List ℕ) (bay : YardBay) (why : Refused) → bay ≡ stated.bay → IsTaken known u text later v
    → why ≢ refused.Memory → IsRefusal (Some stated.problem) text why → StopsAt known u (IsCertificateFault stated said rows) (stop.Fault (fault.Certificate bay why))
refused_stops known later u v stated said rows text bay why name taken other refusal =
    let took = taken.taken in
    let (left, is) = took.some in (text ++ left, took.before left is, (name, other, (text, (left, taken.first left is), refusal)))

-- it says something else
pub other_stops : (known later : Option (List ℕ)) (u v : Unread) (stated : BayProblem) (said : Said) (rows text : List ℕ) (script : Script) (bay : YardBay) → bay ≡ stated.bay → IsTaken known u text later v
    → IsAcceptedText (Some stated.problem) text script → ¬ SaysThis stated said rows script → StopsAt known u (IsCertificateFault stated said rows) (stop.Fault (fault.Other bay))
other_stops known later u v stated said rows text script bay name taken accepted not =
    let took = taken.taken in
    let (left, is) = took.some in (text ++ left, took.before left is, (name, (text, script, (left, taken.first left is), accepted, not)))
