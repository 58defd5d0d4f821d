-- How the program ends, from how its job did.
use Rattle.std.proofs.Common.{◌≡◌, ℕ, List, Option, None, Result, Ok, Err, MatchResult, inl, inr, subst, sym}
use Rattle.crp_report.specs.declared.status.Status.{Status}
use Rattle.crp_report.specs.Runs.{SinkSeen}
use Rattle.crp_jobs.specs.declared.job.Job.{Job}
use Rattle.crp_jobs.specs.declared.outcome.ToolFault.{ToolFault}
use Rattle.crp_files.specs.Known.{KnownFiles}
use Rattle.crp_jobs.specs.Advice.{failed_words}
use Rattle.crp_jobs.specs.FaultLines.{IsPlacedLine}
use Rattle.crp_jobs.specs.Found.{IsPlainText}
use Rattle.crp_jobs.specs.Outcomes.{exit_code}
use Rattle.crp_jobs.specs.Opened.{IsLeftAlone}
use Rattle.crp_commands.specs.Performing.{JobSeen}
use Rattle.crp_commands.specs.Sized.{IsDone, IsFailed}
use Rattle.crp_commands.specs.Noted.{IsNoted}
use Rattle.crp_commands.proofs.Noted.{seen_from, noted_alone}
use Rattle.crp_words.specs.Endings.{IsExplained, IsExplainedWith, IsExplainedOf, JobEnds}

pub job_ends : (j : Job) (seen : JobSeen) (a b c : Option (List ℕ)) (m n o : ℕ) (status : ℕ) (answer : Result Status ToolFault) →
    MatchResult answer (IsDone j seen) (IsFailed j seen) →
    IsNoted j (seen_from a b m n) → MatchResult answer (λ _. IsLeftAlone (seen_from b c n o)) (λ fault. IsExplainedOf seen.files.left j fault (seen_from b c n o)) →
    status ≡ exit_code answer → JobEnds j seen (seen_from a c m o) status
job_ends j seen a b c m n o status (Ok ended) done noted quiet is = inl (ended, done, noted_alone j a b c m n o noted quiet, is)
job_ends j seen a b c m n o status (Err fault) fails noted explained is =
    inr (fault, fails, record { between = b; failures = n; noted = noted; behind = explained }, is)

-- a fault is explained, at this place
pub explained_at : (known : KnownFiles) (j : Job) (f : ToolFault) (place : Option (List ℕ)) (s : SinkSeen) → place ≡ failed_words j f → IsExplained place s
    → IsExplainedOf known j f s
explained_at known j f place s is explained = inl (subst (λ (p : Option (List ℕ)). IsExplained p s) is explained)

-- or with what was found
pub explained_found : (known : KnownFiles) (j : Job) (f : ToolFault) (found : List ℕ) (s : SinkSeen) → None ≡ failed_words j f → IsPlainText found → IsPlacedLine known j f found
    → IsExplainedWith found s → IsExplainedOf known j f s
explained_found known j f found s none plain placed explained = inr (sym none, found, plain, placed, explained)
