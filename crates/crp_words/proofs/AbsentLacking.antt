-- From what the rows of `absent` lack to why no job comes of them.
use Rattle.std.proofs.Common.{ℕ, List, refl, inl, inr, arith, codes}
use Rattle.clap.specs.Words.{Row}
use Rattle.crp_report.specs.Chosen.{InputChosen}
use Rattle.crp_words.specs.Words.{Asks, HasInput, HasSeparator, IsFault, IsInputFault, IsSizedTwice, IsWordsOrMemory, Lacks, NoFault}
use Rattle.crp_jobs.specs.declared.job.Job.{Job}
use Rattle.crp_jobs.specs.declared.job.FileCommand.TheVariants as command
use Rattle.crp_jobs.specs.declared.job.Job.TheVariants as job
use Rattle.crp_words.specs.declared.usage.SettingFault.{SettingFault}
use Rattle.crp_words.specs.declared.usage.Usage.{Usage}
use Rattle.crp_words.proofs.Lacking.{lacks, lacks_more, no_input_fault, other_name, other_second}

-- what absent asks for has an input, its size once, and a byte between fields
absent_asks : (rows : List Row) (j : Job) → Asks (codes "absent") rows j
    → ¬ IsSizedTwice rows × ((s : InputChosen) × HasInput rows s) × ((n : ℕ) × HasSeparator rows n)
absent_asks rows (job.OneFile file command.Replay stop) asks = absurd (other_name 97 114 _ _ (omega arith) asks.0)
absent_asks rows (job.OneFile file command.Rewrite stop) asks = absurd (other_name 97 114 _ _ (omega arith) asks.0)
absent_asks rows (job.OneFile file (command.Bound chains json) stop) asks = absurd (other_name 97 98 _ _ (omega arith) asks.0.0)
absent_asks rows (job.OneFile file (command.Check any_size workers json) stop) asks = absurd (other_name 97 99 _ _ (omega arith) asks.0.0)
absent_asks rows (job.OneFile file (command.Prove search) stop) asks = absurd (other_name 97 112 _ _ (omega arith) asks.0.0)
absent_asks rows (job.Absent names settings) asks = (asks.1, (settings, asks.3), (names.separator, asks.2.3))
absent_asks rows (job.Audit names settings) asks = absurd (other_second 97 98 117 _ _ (omega arith) asks.0)
absent_asks rows (job.Follow names settings) asks = absurd (other_name 97 102 _ _ (omega arith) asks.0)
absent_asks rows (job.Compare names settings) asks = absurd (other_name 97 102 _ _ (omega arith) asks.0)
absent_asks rows (job.Solve names settings quiet progress) asks = absurd (other_name 97 115 _ _ (omega arith) asks.0)

absent_fault : (rows : List Row) (f : SettingFault) → IsFault (codes "absent") rows f → ¬ IsSizedTwice rows × IsInputFault rows f
absent_fault rows f (inl (is, first)) = absurd (other_name 97 112 _ _ (omega arith) is)
absent_fault rows f (inr (inl (is, first))) = absurd (other_name 97 115 _ _ (omega arith) is)
absent_fault rows f (inr (inr (inl (is, first)))) = absurd (other_second 97 98 117 _ _ (omega arith) is)
absent_fault rows f (inr (inr (inr (inl (is, first))))) = absurd (other_name 97 102 _ _ (omega arith) is)
absent_fault rows f (inr (inr (inr (inr (inl (is, first)))))) = first
absent_fault rows f (inr (inr (inr (inr (inr (is, first)))))) = absurd (other_name 97 99 _ _ (omega arith) is)

-- without an input absent asks for nothing
pub no_absent : (rows : List Row) (u : Usage) → ¬ IsSizedTwice rows → Lacks (HasInput rows) (IsInputFault rows) u
    → Lacks (Asks (codes "absent") rows) (IsFault (codes "absent") rows) u
no_absent rows u once = lacks_more (HasInput rows) (Asks (codes "absent") rows) (IsInputFault rows) (IsFault (codes "absent") rows) u
    (λ j asks. (absent_asks rows j asks).1) (λ f first. inr (inr (inr (inr (inl (refl, (once, first))))))) (λ f first. inl (absent_fault rows f first).1)

-- so with one, and without a byte between fields
pub no_absent_separator : (rows : List Row) (s : InputChosen) (u : Usage) → HasInput rows s → Lacks (HasSeparator rows) NoFault u
    → Lacks (Asks (codes "absent") rows) (IsFault (codes "absent") rows) u
no_absent_separator rows s u has = lacks_more (HasSeparator rows) (Asks (codes "absent") rows) NoFault (IsFault (codes "absent") rows) u
    (λ j asks. (absent_asks rows j asks).2) (λ f none. absurd none) (λ f first. absurd (no_input_fault rows s has f (absent_fault rows f first).1))

-- nor does it where its size is given twice
pub absent_sized_twice : (rows : List Row) (u : Usage) → IsSizedTwice rows → IsWordsOrMemory u
    → Lacks (Asks (codes "absent") rows) (IsFault (codes "absent") rows) u
absent_sized_twice rows u twice words = lacks (Asks (codes "absent") rows) (IsFault (codes "absent") rows) u words
    (λ j asks. (absent_asks rows j asks).0 twice) (λ f first. (absent_fault rows f first).0 twice)
