-- From what the rows of `check` lack to why no job comes of them.
use Rattle.std.proofs.Common.{ℕ, List, refl, inl, inr, arith, codes}
use Rattle.clap.specs.Words.{Row, Text}
use Rattle.crp_words.specs.Words.{AreWorkersBeyond, Asks, HasText, HasWorkers, IsFault, IsJust, Lacks, NoFault}
use Rattle.crp_jobs.specs.declared.job.Job.{Job}
use Rattle.crp_jobs.specs.declared.job.FileCommand.TheVariants as command
use Rattle.crp_jobs.specs.declared.job.Job.TheVariants as job
use Rattle.crp_words.specs.declared.usage.SettingFault.{SettingFault}
use Rattle.crp_words.specs.declared.usage.SettingFault.TheVariants as setting
use Rattle.crp_words.specs.declared.usage.Usage.{Usage}
use Rattle.crp_words.proofs.Lacking.{lacks_more, no_workers_fault, other_name}

-- what check asks for has workers, and a file
check_asks : (rows : List Row) (j : Job) → Asks (codes "check") rows j → ((n : ℕ) × HasWorkers rows n) × ((file : Text) × HasText (codes "file") rows file)
check_asks rows (job.OneFile file command.Replay stop) asks = absurd (other_name 99 114 _ _ (omega arith) asks.0)
check_asks rows (job.OneFile file command.Rewrite stop) asks = absurd (other_name 99 114 _ _ (omega arith) asks.0)
check_asks rows (job.OneFile file (command.Bound chains json) stop) asks = absurd (other_name 99 98 _ _ (omega arith) asks.0.0)
check_asks rows (job.OneFile file (command.Check any_size workers json) stop) asks = ((workers, asks.0.2), (file.now, asks.1))
check_asks rows (job.OneFile file (command.Prove search) stop) asks = absurd (other_name 99 112 _ _ (omega arith) asks.0.0)
check_asks rows (job.Absent names settings) asks = absurd (other_name 99 97 _ _ (omega arith) asks.0)
check_asks rows (job.Audit names settings) asks = absurd (other_name 99 97 _ _ (omega arith) asks.0)
check_asks rows (job.Follow names settings) asks = absurd (other_name 99 102 _ _ (omega arith) asks.0)
check_asks rows (job.Compare names settings) asks = absurd (other_name 99 102 _ _ (omega arith) asks.0)
check_asks rows (job.Solve names settings quiet progress) asks = absurd (other_name 99 115 _ _ (omega arith) asks.0)

check_fault : (rows : List Row) (f : SettingFault) → IsFault (codes "check") rows f → IsJust setting.Workers (AreWorkersBeyond rows) f
check_fault rows f (inl (is, first)) = absurd (other_name 99 112 _ _ (omega arith) is)
check_fault rows f (inr (inl (is, first))) = absurd (other_name 99 115 _ _ (omega arith) is)
check_fault rows f (inr (inr (inl (is, first)))) = absurd (other_name 99 97 _ _ (omega arith) is)
check_fault rows f (inr (inr (inr (inl (is, first))))) = absurd (other_name 99 102 _ _ (omega arith) is)
check_fault rows f (inr (inr (inr (inr (inl (is, first)))))) = absurd (other_name 99 97 _ _ (omega arith) is)
check_fault rows f (inr (inr (inr (inr (inr (is, first)))))) = first

-- without workers within their limits check asks for nothing
pub no_check : (rows : List Row) (u : Usage) → Lacks (HasWorkers rows) (IsJust setting.Workers (AreWorkersBeyond rows)) u
    → Lacks (Asks (codes "check") rows) (IsFault (codes "check") rows) u
no_check rows u = lacks_more (HasWorkers rows) (Asks (codes "check") rows) (IsJust setting.Workers (AreWorkersBeyond rows)) (IsFault (codes "check") rows) u
    (λ j asks. (check_asks rows j asks).0) (λ f first. inr (inr (inr (inr (inr (refl, first)))))) (λ f first. inl (check_fault rows f first))

-- nor does it without a file
pub no_check_file : (rows : List Row) (n : ℕ) (u : Usage) → HasWorkers rows n → Lacks (HasText (codes "file") rows) NoFault u
    → Lacks (Asks (codes "check") rows) (IsFault (codes "check") rows) u
no_check_file rows n u has = lacks_more (HasText (codes "file") rows) (Asks (codes "check") rows) NoFault (IsFault (codes "check") rows) u
    (λ j asks. (check_asks rows j asks).1) (λ f none. absurd none)
    (λ f first. absurd (no_workers_fault rows n has (check_fault rows f first).1))
