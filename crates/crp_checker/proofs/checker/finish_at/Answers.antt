use Rattle.std.proofs.Common.{◌≡◌, List, ℕ, ◌⊎◌, inl, inr, subst}
use Rattle.crp_cert.specs.declared.fault.CertFault.TheVariants as faults
use Rattle.crp_checker.specs.Openings.{IsBegunWith, part_word}
use Rattle.crp_checker.specs.Stages.{HasCome}
use Rattle.crp_checker.proofs.Concluded.{ends_in_line, ends_in_part, faulty_now}
use Rattle.crp_checker.proofs.checker.finish_at.Goals as goal

pub returns-in-Head-clause-refused : goal.returns-in-Head-clause-refused
returns-in-Head-clause-refused c =
    inr (λ wanted bytes come. inl (c.fault.ensures bytes (subst (HasCome wanted bytes) c.in-Head.is come)))

pub returns-in-Line-clause-refused : goal.returns-in-Line-clause-refused
returns-in-Line-clause-refused c =
    inr (λ wanted bytes come. ends_in_line wanted bytes c.in-Line.findings c.in-Line.begun.items c.open_fault-fault.result (subst (HasCome wanted bytes) c.in-Line.is come)
    (subst (λ (l : List ℕ). (IsBegunWith l part_word × (c.open_fault-fault.result ≡ faults.Part c.in-Line.findings.line)) ⊎ ((IsBegunWith l part_word → ⊥) × (c.open_fault-fault.result ≡ faults.End c.in-Line.findings.line)))
    c.deref.ensures.value c.open_fault-fault.ensures))

pub returns-in-Part-clause-refused : goal.returns-in-Part-clause-refused
returns-in-Part-clause-refused c =
    inr (λ wanted bytes come. ends_in_part wanted bytes c.in-Part.findings c.in-Part.name c.in-Part.line (subst (HasCome wanted bytes) c.in-Part.is come))

pub returns-clause-refused : goal.returns-clause-refused
returns-clause-refused c = inr (λ wanted bytes come. faulty_now bytes _ c.in-Faulty.fault (subst (HasCome wanted bytes) c.in-Faulty.is come))
