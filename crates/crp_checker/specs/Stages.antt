-- What a checker that is fed has read, by the stage that it is at.
use Rattle.std.specs.Prelude.{◌≡◌, ◌≢◌, ℕ, ◌+◌, ◌≤◌, List, [], ◌++◌, length, Option, Some, None, flat_map}
use Rattle.std.specs.List.{AllByRecursion}
use Rattle.crp_plan.specs.BayNames.{YardBay}
use Rattle.crp_plan.specs.Bay.{Problem, Position, IsAt}
use Rattle.crp_tree.specs.Claims.{given_by, names}
use Rattle.crp_cert.specs.declared.head.Head.{Head}
use Rattle.crp_cert.specs.declared.fault.CertFault.{CertFault}
use Rattle.crp_cert.specs.declared.script.Script.{Script}
use Rattle.crp_cert.specs.Text.{first_part}
use Rattle.crp_cert.specs.Script.{end_line, claim_of, IsScriptOf}
use Rattle.crp_cert.specs.ScriptFaults.{BeginsWithParts, IsFirstFaultOfScript}
use Rattle.crp_cert.specs.HeadsFed.{IsInHead, IsBayIn}
use Rattle.crp_checker.specs.declared.refused.Refused.{Refused}
use Rattle.crp_checker.specs.declared.refused.Refused.TheVariants as refused
use Rattle.crp_checker.specs.declared.findings.Findings.{Findings}
use Rattle.crp_checker.specs.declared.line.SymbolLine.{SymbolLine}
use Rattle.crp_checker.specs.declared.stage.Stage.{Stage}
use Rattle.crp_checker.specs.declared.stage.Stage.TheVariants.{Head as Head', Line, Part, Ended, Faulty}
use Rattle.crp_checker.specs.declared.wrong.Wrong.{Wrong}
use Rattle.crp_checker.specs.declared.wrong.Wrong.TheVariants as wrong
use Rattle.crp_checker.specs.Gathered.{gathered}
use Rattle.crp_checker.specs.Lines.{LineIs}
use Rattle.crp_checker.specs.Verdicts.{plan_count}
use Rattle.crp_checker.specs.Openings.{IsBegunWith, named_line, HasNoName}
use Rattle.crp_checker.specs.Refusals.{need_in, HasRightHead, AreRightParts, IsFirstWrongClaim}

-- a head, and no part yet
abbrev pub first_script : Head → Script
first_script head = record { head = head; parts = [] }

-- the first thing that is wrong with the problem, the plan or the nodes of a script, or that nothing is
abbrev pub IsNote : Option Problem → Script → Option Refused → Type 0
IsNote wanted script None = HasRightHead wanted script × AreRightParts script
IsNote wanted script (Some refused.OtherProblem) = IsFirstWrongClaim wanted script refused.OtherProblem
IsNote wanted script (Some (refused.Plan fault)) = IsFirstWrongClaim wanted script (refused.Plan fault)
IsNote wanted script (Some refused.NoFirstPlan) = IsFirstWrongClaim wanted script refused.NoFirstPlan
IsNote wanted script (Some (refused.Low part symbol)) = IsFirstWrongClaim wanted script (refused.Low part symbol)
IsNote wanted script (Some (refused.Finished part symbol)) = IsFirstWrongClaim wanted script (refused.Finished part symbol)
IsNote wanted script (Some (refused.Unshown part symbol)) = IsFirstWrongClaim wanted script (refused.Unshown part symbol)
IsNote wanted script (Some r) = ⊥

-- the same of a head
abbrev pub IsHeadNote : Option Problem → Head → Option Refused → Type 0
IsHeadNote wanted head note = IsNote wanted (first_script head) note

-- the same after one part more of this name, whose first wrong node is this one, if it has one
abbrev pub note_after : Option Refused → List ℕ → Option Wrong → Option Refused
note_after (Some r) name w = Some r
note_after None name None = None
note_after None name (Some (wrong.Low k)) = Some (refused.Low name k)
note_after None name (Some (wrong.AtEnd k)) = Some (refused.Finished name k)
note_after None name (Some (wrong.Unshown k)) = Some (refused.Unshown name k)

-- what is kept of a script, where a problem is asked for or none
pub record AreFindings (wanted : Option Problem) (script : Script) (findings : Findings) : Type 0 where
  pub bay_is : findings.bay ≡ script.head.bay
  pub problem_is : findings.problem ≡ script.head.problem
  pub version_is : findings.need.version ≡ script.head.version
  pub claim_is : findings.need.claim ≡ script.head.claim
  pub plan_is : findings.need.plan ≡ script.head.plan
  pub count_is : findings.count ≡ plan_count (claim_of script)
  pub line_is : findings.line ≡ first_part script.head + length script.parts
  pub names_are : findings.names ≡ names script.parts
  pub given_are : findings.given ≡ gathered (flat_map (given_by script.head.problem) script.parts)
  pub note : IsNote wanted script findings.wrong

-- the line of which these bytes came is still open: neither a name nor the last line stands there
pub record IsOpenLine (script : Script) (begun : List ℕ) : Type 0 where
  pub no_name : HasNoName script.head.problem begun
  pub no_end : IsBegunWith begun (end_line (length script.parts)) → ⊥

-- the bytes are a head, parts, and this of the next line, which is still open
pub record IsAtLine (wanted : Option Problem) (bytes : List ℕ) (findings : Findings) (begun : List ℕ) : Type 0 where
  pub script : Script
  pub line : ℕ
  pub are : AreFindings wanted script findings
  pub begins : BeginsWithParts bytes script.head script.parts line begun
  pub is_open : IsOpenLine script begun

-- the bytes are a head, parts, and a part line down to these symbols, of which this is kept
pub record IsAtPart (wanted : Option Problem) (bytes : List ℕ) (findings : Findings) (name : List ℕ) (kept : SymbolLine) : Type 0 where
  pub script : Script
  pub line : ℕ
  pub place : Position
  pub symbols : List ℕ
  pub are : AreFindings wanted script findings
  pub begins : BeginsWithParts bytes script.head script.parts line (named_line name ++ symbols)
  pub short : length name ≤ 8
  pub is_at : IsAt script.head.problem name place
  pub one_line : AllByRecursion (λ b. b ≢ 10) symbols
  pub kept_is : LineIs (need_in script) script.head.version (record { path = name; place = place }) symbols kept

-- the bytes are the text of a script
pub record HasEnded (wanted : Option Problem) (bytes : List ℕ) (findings : Findings) : Type 0 where
  pub script : Script
  pub are : AreFindings wanted script findings
  pub is_text : IsScriptOf bytes script

-- the bytes have this fault and name this bay, or none, whatever follows
pub record IsFaulty (bytes : List ℕ) (bay : Option YardBay) (fault : CertFault) : Type 0 where
  pub fault_stays : (more : List ℕ) → IsFirstFaultOfScript (bytes ++ more) fault
  pub bay_stays : (more : List ℕ) → IsBayIn (bytes ++ more) bay

-- these bytes lead to this stage, where a problem is asked for or none
abbrev pub HasCome : Option Problem → List ℕ → Stage → Type 0
HasCome wanted bytes (Head' head) = IsInHead bytes head
HasCome wanted bytes (Line findings begun) = IsAtLine wanted bytes findings begun.items
HasCome wanted bytes (Part findings name kept) = IsAtPart wanted bytes findings name kept
HasCome wanted bytes (Ended findings) = HasEnded wanted bytes findings
HasCome wanted bytes (Faulty bay fault) = IsFaulty bytes bay fault
