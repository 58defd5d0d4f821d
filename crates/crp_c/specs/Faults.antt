-- Why a certificate is refused, in numbers.
use Rattle.std.specs.Prelude.{ℕ}
use Rattle.crp_plan.specs.declared.plan.PlanFault.{PlanFault}
use Rattle.crp_plan.specs.declared.plan.PlanFault.TheVariants as plan
use Rattle.crp_cert.specs.declared.fault.CertFault.{CertFault}
use Rattle.crp_cert.specs.declared.fault.CertFault.TheVariants as text
use Rattle.crp_checker.specs.declared.refused.Refused.{Refused}
use Rattle.crp_checker.specs.declared.refused.Refused.TheVariants as refused
use Rattle.crp_c.specs.declared.fault.Fault.{Fault}

-- the fault with this number, at this place
abbrev pub at : ℕ → ℕ → Fault
at number place = record { number = number; place = place }

-- the step of a plan that is refused, from 1; 0 where all steps are legal
abbrev pub step_of : PlanFault → ℕ
step_of (plan.LeftOver step) = step
step_of (plan.NoSuchRow step) = step
step_of (plan.NotLegal step) = step
step_of plan.Incomplete = 0

-- C1 to C11, at a line
abbrev pub fault_in_text : CertFault → Fault
fault_in_text (text.Opening line) = at 1 line
fault_in_text (text.Size line) = at 2 line
fault_in_text (text.Row line) = at 3 line
fault_in_text (text.Claim line) = at 4 line
fault_in_text (text.Plan line) = at 5 line
fault_in_text (text.Part line) = at 6 line
fault_in_text (text.Order line) = at 7 line
fault_in_text (text.Symbol line) = at 8 line
fault_in_text (text.Unfinished line) = at 9 line
fault_in_text (text.Trailing line) = at 10 line
fault_in_text (text.End line) = at 11 line
fault_in_text text.Memory = at 0 0

-- these, and from 101 on K1 to K8, at a step of the plan or a symbol of a part; want of memory is no fault of the certificate
abbrev pub fault_of : Refused → Fault
fault_of (refused.Cert fault) = fault_in_text fault
fault_of refused.OtherProblem = at 101 0
fault_of (refused.Plan fault) = at 102 (step_of fault)
fault_of refused.NoFirstPlan = at 102 0
fault_of (refused.Low part symbol) = at 103 symbol
fault_of (refused.Finished part symbol) = at 104 symbol
fault_of (refused.Unshown part symbol) = at 108 symbol
fault_of (refused.Missing name) = at 105 0
fault_of (refused.Unneeded name) = at 106 0
fault_of refused.Memory = at 0 0
