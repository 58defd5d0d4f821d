-- A bay that is audited in two steps: its lines, then its certificate.
use Rattle.std.specs.Prelude.{◌≡◌, ◌≢◌, ℕ, List, [], ◌++◌, Option, Some, MatchOption}
use Rattle.crp_plan.specs.Bay.{cap, start}
use Rattle.crp_order.specs.declared.bay_problem.BayProblem.{BayProblem}
use Rattle.crp_cert.specs.declared.script.Script.{Script}
use Rattle.crp_checker.specs.declared.verdict.Verdict.{Verdict}
use Rattle.crp_checker.specs.declared.refused.Refused.TheVariants as refused
use Rattle.crp_checker.specs.AcceptedTexts.{IsAcceptedText}
use Rattle.crp_checker.specs.Verdicts.{IsVerdict}
use Rattle.crp_checker.specs.Refusals.{IsRefusal}
use Rattle.crp_said.specs.declared.said.Said.{Said}
use Rattle.crp_said.specs.declared.said.Said.TheVariants.{First}
use Rattle.crp_said.specs.Said.{BaySaid, count_said}
use Rattle.crp_said.specs.Spelled.{line_behind}
use Rattle.crp_audit.specs.declared.fault.AuditFault.{AuditFault}
use Rattle.crp_audit.specs.declared.fault.AuditFault.TheVariants as fault
use Rattle.crp_audit.specs.Headline.{BearsOut}
use Rattle.crp_audit.specs.Faults.{IsNextText}
use Rattle.crp_audit.specs.Replayed.{StopsBehind}
use Rattle.crp_audit.specs.Printed.{AreOtherLines, ArePlanLines}

-- the lines are those of a plan with these rows, and with as many relocations as are said; where no plan is said there are none
abbrev pub AreRightLines : BayProblem → BaySaid → List ℕ → Type 0
AreRightLines stated s rows = MatchOption (count_said s.said) (s.lines ≡ []) (λ count. ArePlanLines stated.names stated.problem s.lines count rows)

-- what is wrong with the lines behind this front of the report
abbrev pub IsLinesFault : BayProblem → BaySaid → List ℕ → AuditFault → Type 0
IsLinesFault stated s front (fault.Move line) =
    (count : ℕ) × (before : List ℕ) × (count_said s.said ≡ Some count) × (line ≡ line_behind (front ++ before))
    × StopsBehind stated.names (start stated.problem) s.lines before
IsLinesFault stated s front (fault.Plan bay) = (bay ≡ stated.bay) × AreOtherLines stated.names stated.problem s.lines (count_said s.said)
IsLinesFault stated s front f = f ≡ fault.Memory

-- where the first best plan is said, the plan of the certificate goes to these rows
abbrev pub IsPlanSaid : Said → Option (List ℕ) → List ℕ → Type 0
IsPlanSaid (First count) plan rows = plan ≡ Some rows
IsPlanSaid said plan rows = Unit {0}

-- the certificate is the bay's, its verdict bears out what is said, and its plan is the one that is said
pub record SaysThis (stated : BayProblem) (said : Said) (rows : List ℕ) (script : Script) : Type 0 where
  pub bay : script.head.bay ≡ stated.bay
  pub verdict : (v : Verdict) × IsVerdict script v × BearsOut (cap stated.problem) said v
  pub plan : IsPlanSaid said script.head.plan rows

-- what is wrong with the certificate with which these bytes begin
abbrev pub IsCertificateFault : BayProblem → Said → List ℕ → List ℕ → AuditFault → Type 0
IsCertificateFault stated said rows left (fault.Lacking bay) = (bay ≡ stated.bay) × (left ≡ [])
IsCertificateFault stated said rows left (fault.Certificate bay why) =
    (bay ≡ stated.bay) × (why ≢ refused.Memory) × ((text : List ℕ) × IsNextText left text × IsRefusal (Some stated.problem) text why)
IsCertificateFault stated said rows left (fault.Other bay) =
    (bay ≡ stated.bay)
    × ((text : List ℕ) × (script : Script) × IsNextText left text × IsAcceptedText (Some stated.problem) text script × ¬ SaysThis stated said rows script)
IsCertificateFault stated said rows left f = f ≡ fault.Memory
