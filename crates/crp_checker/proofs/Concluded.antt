-- What is known of a text at its end.
use Rattle.std.proofs.Common.{◌≡◌, ◌≢◌, ◌↔◌, Contains, ℕ, suc, ◌+◌, ◌-◌, ◌^◌, ◌≤◌, ◌⊎◌, inl, inr, ⊎_elim, List, [], ◌∷◌, ◌++◌, length, min, Option, Some, None, refl, sym, ap, ◌∙◌, subst, arith, append_assoc}
use Rattle.std.proofs.lemmas.List.{append-nil}
use Rattle.crp_plan.specs.Bay.{Problem, cap}
use Rattle.crp_plan.specs.BayNames.{YardBay}
use Rattle.crp_tree.specs.Claims.{Part, IsRootOrGiven}
use Rattle.crp_cert.specs.declared.head.Head.{Head}
use Rattle.crp_cert.specs.declared.fault.CertFault.{CertFault}
use Rattle.crp_cert.specs.declared.fault.CertFault.TheVariants as faults
use Rattle.crp_cert.specs.Text.{first_part}
use Rattle.crp_cert.specs.Script.{end_line}
use Rattle.crp_cert.specs.ScriptFaults.{BeginsWithParts, BeginsWithPart, IsFirstFaultOfScript}
use Rattle.crp_cert.specs.Settled.{BeginsWithBay, spelled_name}
use Rattle.crp_cert.proofs.Heads.{first_few}
use Rattle.crp_cert.proofs.Joined.{all_both}
use Rattle.crp_cert.proofs.NameOrder.{few_parts}
use Rattle.crp_cert.proofs.Opening.{name_behind, endless, line_fault}
use Rattle.crp_cert.proofs.Settled.{path_in_line}
use Rattle.crp_checker.specs.declared.findings.Findings.{Findings}
use Rattle.crp_checker.specs.declared.line.SymbolLine.{SymbolLine}
use Rattle.crp_checker.specs.declared.refused.Refused.{Refused}
use Rattle.crp_checker.specs.declared.refused.Refused.TheVariants as refused
use Rattle.crp_checker.specs.declared.verdict.Verdict.{Verdict}
use Rattle.crp_checker.specs.AcceptedTexts.{IsAcceptedScript, IsAcceptedText}
use Rattle.crp_checker.specs.Verdicts.{IsVerdictUnder, IsVerdict}
use Rattle.crp_checker.specs.Refusals.{IsRefusal}
use Rattle.crp_checker.specs.Needs.{IsNamesRefusal}
use Rattle.crp_checker.specs.Openings.{IsBegunWith, part_word, named_line}
use Rattle.crp_cert.specs.HeadsFed.{IsFaultyHead, IsBayIn}
use Rattle.crp_checker.specs.Gathered.{gathered}
use Rattle.crp_checker.specs.Stages.{IsNote, HasEnded, IsAtLine, IsAtPart, IsFaulty}
use Rattle.crp_checker.proofs.AtLines.{bay_known}
use Rattle.crp_checker.proofs.Claimed.{accepted_from, names_refused}
use Rattle.crp_checker.proofs.Meaning.{claim_refused}

-- the whole text of a script begins with its parts
whole_begins : (wanted : Option Problem) (bytes : List ℕ) (findings : Findings) (ended : HasEnded wanted bytes findings) →
    BeginsWithParts bytes ended.script.head ended.script.parts (first_part ended.script.head + length ended.script.parts) (end_line (length ended.script.parts))
whole_begins wanted bytes findings ended =
    let is = ended.is_text.0 in record { is_head = is.is_head; each_part = is.each_part; rising = is.rising; text = ended.is_text.1; number = refl }

-- ---- more bytes after it

pub more_after : (wanted : Option Problem) (before bytes : List ℕ) (findings : Findings) (number : ℕ) → HasEnded wanted before findings → 1 ≤ length bytes → number ≡ min (findings.line + 1) (2 ^ 32 - 1) →
    IsFaulty (before ++ bytes) (Some findings.bay) (faults.End number)
more_after wanted before [] findings number ended some is = absurd (omega arith)
more_after wanted before (b ∷ bytes) findings number ended some is =
    let script = ended.script in
    let head = script.head in
    let parts = script.parts in
    let begins = whole_begins wanted before findings ended in
    let few = few_parts head.version head.problem parts begins.is_head.problem begins.each_part begins.rising in
    let early = first_few head begins.is_head in
    let line : number ≡ suc (first_part head + length parts) = let at = ended.are.line_is in is ∙ omega arith in
    record {
      fault_stays = λ more.
          subst (λ l. IsFirstFaultOfScript l (faults.End number)) (sym (append_assoc before (b ∷ bytes) more))
          (line_fault before ((b ∷ bytes) ++ more) head parts _ (end_line (length parts)) (faults.End number) begins (inr (line, (b, bytes ++ more, refl))));
      bay_stays = λ more.
          subst (BeginsWithBay ((before ++ b ∷ bytes) ++ more)) (sym ended.are.bay_is)
          (subst (λ l. BeginsWithBay l head.bay) (sym (append_assoc before (b ∷ bytes) more)) (bay_known before head parts _ (end_line (length parts)) begins ((b ∷ bytes) ++ more)));
    }

-- a head that is at fault
pub head_faulty : (bytes : List ℕ) (bay : Option YardBay) (fault : CertFault) → IsFaultyHead bytes bay fault → IsFaulty bytes bay fault
head_faulty bytes bay fault is = record { fault_stays = λ more. inl (is.fault_stays more); bay_stays = is.bay_stays }

-- what stays so is so
pub faulty_on : (before bytes : List ℕ) (bay : Option YardBay) (fault : CertFault) → IsFaulty before bay fault → IsFaulty (before ++ bytes) bay fault
faulty_on before bytes bay fault is = record {
  fault_stays = λ more. subst (λ l. IsFirstFaultOfScript l fault) (sym (append_assoc before bytes more)) (is.fault_stays (bytes ++ more));
  bay_stays = λ more. subst (λ l. IsBayIn l bay) (sym (append_assoc before bytes more)) (is.bay_stays (bytes ++ more));
}

pub faulty_now : (bytes : List ℕ) (bay : Option YardBay) (fault : CertFault) → IsFaulty bytes bay fault → IsFirstFaultOfScript bytes fault
faulty_now bytes bay fault is = subst (λ l. IsFirstFaultOfScript l fault) (append-nil bytes) (is.fault_stays [])

-- ---- the bay

pub bay_now : (bytes : List ℕ) (bay : Option YardBay) (fault : CertFault) → IsFaulty bytes bay fault → IsBayIn bytes bay
bay_now bytes bay fault is = subst (λ l. IsBayIn l bay) (append-nil bytes) (is.bay_stays [])

bay_in : (bytes : List ℕ) (head : Head) (parts : List Part) (line : ℕ) (rest : List ℕ) → BeginsWithParts bytes head parts line rest → BeginsWithBay bytes head.bay
bay_in bytes head parts line rest begins = subst (λ l. BeginsWithBay l head.bay) (append-nil bytes) (bay_known bytes head parts line rest begins [])

pub bay_at_line : (wanted : Option Problem) (bytes : List ℕ) (findings : Findings) (begun : List ℕ) → IsAtLine wanted bytes findings begun → BeginsWithBay bytes findings.bay
bay_at_line wanted bytes findings begun at = subst (BeginsWithBay bytes) (sym at.are.bay_is) (bay_in bytes at.script.head at.script.parts at.line begun at.begins)

pub bay_at_part : (wanted : Option Problem) (bytes : List ℕ) (findings : Findings) (name : List ℕ) (kept : SymbolLine) → IsAtPart wanted bytes findings name kept → BeginsWithBay bytes findings.bay
bay_at_part wanted bytes findings name kept at = subst (BeginsWithBay bytes) (sym at.are.bay_is) (bay_in bytes at.script.head at.script.parts at.line (named_line name ++ at.symbols) at.begins)

pub bay_at_end : (wanted : Option Problem) (bytes : List ℕ) (findings : Findings) → HasEnded wanted bytes findings → BeginsWithBay bytes findings.bay
bay_at_end wanted bytes findings ended =
    subst (BeginsWithBay bytes) (sym ended.are.bay_is) (bay_in bytes ended.script.head ended.script.parts _ (end_line (length ended.script.parts)) (whole_begins wanted bytes findings ended))

-- ---- a text that ends within a line

pub ends_in_line : (wanted : Option Problem) (bytes : List ℕ) (findings : Findings) (begun : List ℕ) (fault : CertFault) → IsAtLine wanted bytes findings begun →
    (IsBegunWith begun part_word × (fault ≡ faults.Part findings.line)) ⊎ ((IsBegunWith begun part_word → ⊥) × (fault ≡ faults.End findings.line)) → IsFirstFaultOfScript bytes fault
ends_in_line wanted bytes findings begun fault at which =
    let script = at.script in
    let p = script.head.problem in
    let number : at.line ≡ findings.line = at.begins.number ∙ sym at.are.line_is in
    ⊎_elim
    (λ part.
    let word = part.0 in
    subst (IsFirstFaultOfScript bytes) (sym part.1)
    (inr (
      script.head,
      script.parts,
      at.line,
      begun,
      at.begins,
      (
        sym number,
        word,
        λ stands.
            let name = name_behind p word.0 (subst (BeginsWithPart p) word.1 stands) in
            at.is_open.no_name (name.0, name.1, (name.2.0, word.1 ∙ ap (λ l. part_word ++ l) name.2.1 ∙ sym (append_assoc part_word (spelled_name name.0) name.2.0))),
      ),
    )))
    (λ end.
    subst (IsFirstFaultOfScript bytes) (sym end.1)
    (inr (script.head, script.parts, at.line, begun, at.begins, inl (sym number, (λ after e. end.0 (after, e)), λ after e. at.is_open.no_end (after, e)))))
    which

pub ends_in_part : (wanted : Option Problem) (bytes : List ℕ) (findings : Findings) (name : List ℕ) (kept : SymbolLine) → IsAtPart wanted bytes findings name kept → IsFirstFaultOfScript bytes (faults.Part findings.line)
ends_in_part wanted bytes findings name kept at =
    let script = at.script in
    let p = script.head.problem in
    let number : at.line ≡ findings.line = at.begins.number ∙ sym at.are.line_is in
    let text : named_line name ++ at.symbols ≡ part_word ++ (spelled_name name ++ at.symbols) = append_assoc part_word (spelled_name name) at.symbols in
    let one_line = all_both (λ b. b ≢ 10) (spelled_name name) at.symbols (path_in_line p name at.place at.begins.is_head.problem at.is_at) at.one_line in
    inr (script.head, script.parts, at.line, named_line name ++ at.symbols, at.begins, (sym number, (spelled_name name ++ at.symbols, text), λ stands. endless p (spelled_name name ++ at.symbols) one_line (subst (BeginsWithPart p) text stands)))

-- ---- a text that ends

-- where nothing is noted the names decide
names_refusal : (wanted : Option Problem) (bytes : List ℕ) (findings : Findings) (r : Refused) → (r ≡ refused.Memory → ⊥) → findings.wrong ≡ None →
    ((list : List (List ℕ)) → findings.given ≡ gathered list → IsNamesRefusal findings.names list r) → HasEnded wanted bytes findings → IsRefusal wanted bytes r
names_refusal wanted bytes findings r not right is ended =
    let script = ended.script in
    let note = subst (IsNote wanted script) right ended.are.note in
    ⊎_elim
    (λ memory. absurd (not memory))
    (λ wrong. claim_refused wanted bytes script r ended.is_text (wrong wanted note.0.as_wanted))
    (names_refused script findings.names _ r ended.are.names_are refl note.1 note.0.plan_is note.0.its_plan (is _ ended.are.given_are))

-- no memory is left, or it is another refusal
memory_or_not : (r : Refused) → (r ≡ refused.Memory) ⊎ (r ≡ refused.Memory → ⊥)
memory_or_not (refused.Missing name) = inr (λ e. cc)
memory_or_not (refused.Unneeded name) = inr (λ e. cc)
memory_or_not refused.Memory = inl refl
memory_or_not (refused.Cert fault) = inr (λ e. cc)
memory_or_not refused.OtherProblem = inr (λ e. cc)
memory_or_not (refused.Plan fault) = inr (λ e. cc)
memory_or_not refused.NoFirstPlan = inr (λ e. cc)
memory_or_not (refused.Low part symbol) = inr (λ e. cc)
memory_or_not (refused.Finished part symbol) = inr (λ e. cc)
memory_or_not (refused.Unshown part symbol) = inr (λ e. cc)

pub refused_by_names : (findings : Findings) (r : Refused) → findings.wrong ≡ None → ((list : List (List ℕ)) → findings.given ≡ gathered list → IsNamesRefusal findings.names list r) →
    (r ≡ refused.Memory) ⊎ ((wanted : Option Problem) (bytes : List ℕ) → HasEnded wanted bytes findings → IsRefusal wanted bytes r)
refused_by_names findings r right is =
    ⊎_elim (λ memory. inl memory) (λ not. inr (λ wanted bytes ended. names_refusal wanted bytes findings r not right is ended)) (memory_or_not r)

-- it shows what is said
pub shown_at_end : (wanted : Option Problem) (bytes : List ℕ) (findings : Findings) (verdict : Verdict) (ended : HasEnded wanted bytes findings) → findings.wrong ≡ None →
    ((list : List (List ℕ)) → findings.given ≡ gathered list → (name : List ℕ) → Contains findings.names name ↔ IsRootOrGiven list name) → IsVerdictUnder findings.need.claim (cap findings.problem) findings.count verdict →
    IsAcceptedText wanted bytes ended.script × IsVerdict ended.script verdict
shown_at_end wanted bytes findings verdict ended right same is =
    let script = ended.script in
    let note = subst (IsNote wanted script) right ended.are.note in
    let accepted : IsAcceptedScript script =
    accepted_from script findings.names _ ended.is_text.0 note.0.plan_is note.0.its_plan note.1 ended.are.names_are refl (same _ ended.are.given_are) in (
      record { is_text = ended.is_text; as_wanted = note.0.as_wanted; accepted = accepted },
      subst (λ n. IsVerdictUnder script.head.claim (cap script.head.problem) n verdict) ended.are.count_is
          (subst (λ p. IsVerdictUnder script.head.claim (cap p) findings.count verdict) ended.are.problem_is (subst (λ c. IsVerdictUnder c (cap findings.problem) findings.count verdict) ended.are.claim_is is)),
    )
