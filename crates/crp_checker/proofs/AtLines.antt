-- What the first bytes of a line lead to.
use Rattle.std.proofs.Common.{◌≡◌, ℕ, suc, ◌+◌, ◌<◌, List, [], ◌∷◌, ◌++◌, length, take, get_or, Option, Some, sym, ap, ◌∙◌, subst, arith, append_assoc}
use Rattle.std.specs.List.{flat_map}
use Rattle.std.proofs.Math.Seq.{take-suc}
use Rattle.crp_plan.specs.Bay.{Problem, IsProblem}
use Rattle.crp_tree.specs.Claims.{Part}
use Rattle.crp_cert.specs.declared.version.Version.{Version}
use Rattle.crp_cert.specs.declared.head.Head.{Head}
use Rattle.crp_cert.specs.declared.fault.CertFault.{CertFault}
use Rattle.crp_cert.specs.declared.script.Script.{Script}
use Rattle.crp_cert.specs.Text.{title_line, bay_line, size_line, stated_heights, size_of, row_line, claim_line, plan_line, head_text}
use Rattle.crp_cert.specs.Script.{part_line, end_line}
use Rattle.crp_cert.specs.ScriptFaults.{BeginsWithParts, IsLineFault}
use Rattle.crp_cert.specs.Settled.{BeginsWithBay}
use Rattle.crp_cert.proofs.NameOrder.{length_names}
use Rattle.crp_cert.proofs.Opening.{begins_on, line_fault}
use Rattle.crp_checker.specs.declared.findings.Findings.{Findings}
use Rattle.crp_checker.specs.Openings.{IsBegunWith, HasNoName, named_line}
use Rattle.crp_checker.specs.Stages.{AreFindings, IsAtLine, HasEnded, IsFaulty}

-- one byte more of some that come
pub one_more : (first came new bytes : List ℕ) (i d : ℕ) → i < length bytes → came ≡ first ++ take i bytes → new ≡ came ++ get_or bytes i d ∷ [] → new ≡ first ++ take (i + 1) bytes
one_more first came new bytes i d lt so_far added =
    let next : suc i ≡ i + 1 = omega arith in
    added ∙ ap (λ l. l ++ get_or bytes i d ∷ []) so_far ∙ append_assoc first (take i bytes) (get_or bytes i d ∷ [])
    ∙ ap (λ l. first ++ l) (sym (take-suc bytes i d lt) ∙ ap (λ n. take n bytes) next)

-- bytes that begin with a head name its bay, whatever follows
pub bay_known : (bytes : List ℕ) (head : Head) (parts : List Part) (line : ℕ) (rest : List ℕ) → BeginsWithParts bytes head parts line rest → (more : List ℕ) → BeginsWithBay (bytes ++ more) head.bay
bay_known bytes head parts line rest begins more =
    let p = head.problem in
    let title : List ℕ = title_line head.version in
    let c : List ℕ = size_line (size_of p) ++ (stated_heights head.version p.heights ++ (flat_map row_line p.stacks ++ (claim_line head.claim ++ plan_line head.plan))) in
    let tail : List ℕ = (flat_map part_line parts ++ rest) ++ more in (
      begins.is_head.name,
      (
        head.version,
        c ++ tail,
        ap (λ l. l ++ more) begins.text ∙ append_assoc (head_text head) (flat_map part_line parts ++ rest) more
            ∙ append_assoc title (bay_line head.bay ++ c) tail ∙ ap (λ l. title ++ l) (append_assoc (bay_line head.bay) c tail),
      ),
    )

-- after as many parts as names
counted : (wanted : Option Problem) (script : Script) (findings : Findings) (count : ℕ) → AreFindings wanted script findings → count ≡ length findings.names → count ≡ length script.parts
counted wanted script findings count are e = e ∙ ap length are.names_are ∙ length_names script.parts

-- the line with some bytes more
line_on : (wanted : Option Problem) (before taken : List ℕ) (findings : Findings) (begun new : List ℕ) (at : IsAtLine wanted before findings begun) → new ≡ begun ++ taken →
    BeginsWithParts (before ++ taken) at.script.head at.script.parts at.line new
line_on wanted before taken findings begun new at e =
    subst (BeginsWithParts (before ++ taken) at.script.head at.script.parts at.line) (sym e) (begins_on before taken at.script.head at.script.parts at.line begun at.begins)

no_name_in : (wanted : Option Problem) (before : List ℕ) (findings : Findings) (begun : List ℕ) → IsAtLine wanted before findings begun → HasNoName findings.problem begun
no_name_in wanted before findings begun at = subst (λ p. HasNoName p begun) (sym at.are.problem_is) at.is_open.no_name

no_end_in : (wanted : Option Problem) (before : List ℕ) (findings : Findings) (begun : List ℕ) (count : ℕ) → count ≡ length findings.names → IsAtLine wanted before findings begun → IsBegunWith begun (end_line count) → ⊥
no_end_in wanted before findings begun count e at stands = at.is_open.no_end (subst (λ n. IsBegunWith begun (end_line n)) (counted wanted at.script findings count at.are e) stands)

-- a name stands there
pub named : (wanted : Option Problem) (before taken : List ℕ) (findings : Findings) (begun new name : List ℕ) (at : IsAtLine wanted before findings begun) → new ≡ begun ++ taken →
    (HasNoName findings.problem begun → new ≡ named_line name) → BeginsWithParts (before ++ taken) at.script.head at.script.parts at.line (named_line name)
named wanted before taken findings begun new name at e is =
    subst (BeginsWithParts (before ++ taken) at.script.head at.script.parts at.line) (is (no_name_in wanted before findings begun at)) (line_on wanted before taken findings begun new at e)

-- the last line stands there
pub ended : (wanted : Option Problem) (before taken : List ℕ) (findings : Findings) (begun new : List ℕ) (count : ℕ) → count ≡ length findings.names → IsAtLine wanted before findings begun → new ≡ begun ++ taken →
    ((IsBegunWith begun (end_line count) → ⊥) → new ≡ end_line count) → HasEnded wanted (before ++ taken) findings
ended wanted before taken findings begun new count n at e is =
    let begins = line_on wanted before taken findings begun new at e in
    let last : new ≡ end_line (length at.script.parts) = is (no_end_in wanted before findings begun count n at) ∙ ap end_line (counted wanted at.script findings count at.are n) in
    record {
      script = at.script;
      are = at.are;
      is_text = (
        record { is_head = begins.is_head; each_part = begins.each_part; rising = begins.rising },
        begins.text ∙ ap (λ l. head_text at.script.head ++ (flat_map part_line at.script.parts ++ l)) last,
      );
    }

-- no line stands there
pub refused_line : (wanted : Option Problem) (before taken : List ℕ) (findings : Findings) (begun new : List ℕ) (count : ℕ) (fault : CertFault) → count ≡ length findings.names → IsAtLine wanted before findings begun → new ≡ begun ++ taken →
    (IsProblem findings.problem → HasNoName findings.problem begun → (version : Version) (parts : List Part) → length parts ≡ count → (more : List ℕ) → IsLineFault version findings.problem parts findings.line (new ++ more) fault) →
    IsFaulty (before ++ taken) (Some findings.bay) fault
refused_line wanted before taken findings begun new count fault n at e is =
    let script = at.script in
    let parts = script.parts in
    let version = script.head.version in
    let begins = line_on wanted before taken findings begun new at e in
    let number : findings.line ≡ at.line = at.are.line_is ∙ sym begins.number in
    let at_fault : (more : List ℕ) → IsLineFault version script.head.problem parts at.line (new ++ more) fault =
    λ more. subst (λ p. IsLineFault version p parts at.line (new ++ more) fault) at.are.problem_is
    (subst (λ l. IsLineFault version findings.problem parts l (new ++ more) fault) number
    (is (subst IsProblem (sym at.are.problem_is) begins.is_head.problem) (no_name_in wanted before findings begun at) version parts (sym (counted wanted script findings count at.are n)) more)) in
    record {
      fault_stays = λ more. line_fault (before ++ taken) more script.head parts at.line new fault begins (at_fault more);
      bay_stays = λ more. subst (BeginsWithBay ((before ++ taken) ++ more)) (sym at.are.bay_is) (bay_known (before ++ taken) script.head parts at.line new begins more);
    }

-- the line is still open
pub still_open : (wanted : Option Problem) (before taken : List ℕ) (findings : Findings) (begun new : List ℕ) (count : ℕ) → count ≡ length findings.names → IsAtLine wanted before findings begun → new ≡ begun ++ taken →
    (HasNoName findings.problem begun → HasNoName findings.problem new) → ((IsBegunWith begun (end_line count) → ⊥) → IsBegunWith new (end_line count) → ⊥) → IsAtLine wanted (before ++ taken) findings new
still_open wanted before taken findings begun new count n at e no_name no_end = record {
  script = at.script;
  line = at.line;
  are = at.are;
  begins = line_on wanted before taken findings begun new at e;
  is_open = record {
    no_name = subst (λ p. HasNoName p new) at.are.problem_is (no_name (no_name_in wanted before findings begun at));
    no_end = λ stands. no_end (no_end_in wanted before findings begun count n at) (subst (λ k. IsBegunWith new (end_line k)) (sym (counted wanted at.script findings count at.are n)) stands);
  };
}
