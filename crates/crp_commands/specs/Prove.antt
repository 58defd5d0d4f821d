-- What `prove` writes: a certificate of the problem that a head states, with a true answer to it. Where that is the first best plan, and it was asked
-- for, the certificate claims it to be that.
use Rattle.std.specs.Prelude.{◌≡◌, ℕ, List}
use Rattle.crp_cert.specs.declared.head.Head.{Head}
use Rattle.crp_cert.specs.Text.{IsHeadOf}
use Rattle.crp_cert.specs.Faults.{IsFirstFault}
use Rattle.crp_solve.specs.declared.answer.Solved.{Solved}
use Rattle.crp_solve.specs.Chosen.{Chosen}
use Rattle.crp_solve.specs.Solved.{IsSolved}
use Rattle.crp_report.specs.declared.status.Status.{Status}
use Rattle.crp_report.specs.Answered.{status_of}
use Rattle.crp_report.specs.Report.{text_of}
use Rattle.crp_headline.specs.Accepted.{IsAcceptedAs}
use Rattle.crp_jobs.specs.declared.outcome.ToolFault.{ToolFault}
use Rattle.crp_jobs.specs.declared.outcome.ToolFault.TheVariants as fault

-- what was chosen for a search of the problem that the head states is answered so, and the text is the certificate of the answer, under the name of the
-- head's bay, which the checker accepts with the verdict on the answer
pub record IsProofOf (chosen : Chosen) (head : Head) (solved : Solved) (text : List ℕ) : Type 0 where
  pub answered : IsSolved head.problem chosen solved
  pub is : text ≡ text_of head.bay head.problem solved.answer
  pub accepted : IsAcceptedAs text head.bay head.problem solved.answer

-- the certificate of the head that the bytes begin with, by an answer with this status
abbrev pub IsProof : Chosen → Status → List ℕ → List ℕ → Type 0
IsProof chosen ended bytes text =
    (head : Head) × IsHeadOf bytes head × ((solved : Solved) × IsProofOf chosen head solved text × (ended ≡ status_of solved.answer))

-- the certificate of the head that the bytes begin with
abbrev pub IsSomeProof : Chosen → List ℕ → List ℕ → Type 0
IsSomeProof chosen bytes text = (ended : Status) × IsProof chosen ended bytes text

-- the bytes begin with no head
abbrev pub IsNoProof : List ℕ → ToolFault → Type 0
IsNoProof bytes (fault.Cert f) = IsFirstFault bytes f
IsNoProof bytes f = ⊥
