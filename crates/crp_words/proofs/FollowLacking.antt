-- From what the rows of `follow` lack to why no job comes of them.
use Rattle.std.proofs.Common.{◌≡◌, ◌∙◌, ℕ, List, [], Option, Some, None, refl, sym, subst, inl, inr, arith, codes}
use Rattle.clap.specs.Words.{Row, Text}
use Rattle.crp_plan.specs.BayNames.{YardBay}
use Rattle.crp_report.specs.Chosen.{InputChosen}
use Rattle.crp_words.specs.Words.{AreFollowWordsClear, Asks, HasInput, HasSeparator, HasText, IsComparedBeside, IsFault, IsFollowNamedTwice, IsInputFault, IsLoadedAlone, IsOneReport, IsOrderedAlone, IsPartOfInput, IsSizedTwice, IsWordsOrMemory, Lacks, MayHaveNumber, MayNameAfter, NoFault}
use Rattle.crp_jobs.specs.declared.job.AfterFile.{AfterFile}
use Rattle.crp_jobs.specs.declared.job.Job.{Job}
use Rattle.crp_jobs.specs.declared.job.FileCommand.TheVariants as command
use Rattle.crp_jobs.specs.declared.job.Job.TheVariants as job
use Rattle.crp_words.specs.declared.usage.SettingFault.{SettingFault}
use Rattle.crp_words.specs.declared.usage.Usage.{Usage}
use Rattle.crp_words.proofs.Lacking.{lacks, lacks_more, no_input_fault, other_name}

-- what stands in the files of a job of follow, and where there is one report in the file of the yard after
pub record FindsFiles (rows : List Row) : Type 0 where
  pub yard : (text : Text) × HasText (codes "yard") rows text
  pub report : (text : Text) × HasText (codes "report") rows text
  pub after : IsOneReport rows → (after : Option AfterFile) × MayNameAfter rows after
  pub separator : (separator : ℕ) × HasSeparator rows separator

follow_asks : (rows : List Row) (j : Job) → Asks (codes "follow") rows j → AreFollowWordsClear rows × ((s : InputChosen) × HasInput rows s) × FindsFiles rows
follow_asks rows (job.OneFile file command.Replay stop) asks = absurd (other_name 102 114 _ _ (omega arith) asks.0)
follow_asks rows (job.OneFile file command.Rewrite stop) asks = absurd (other_name 102 114 _ _ (omega arith) asks.0)
follow_asks rows (job.OneFile file (command.Bound chains json) stop) asks = absurd (other_name 102 98 _ _ (omega arith) asks.0.0)
follow_asks rows (job.OneFile file (command.Check any_size workers json) stop) asks = absurd (other_name 102 99 _ _ (omega arith) asks.0.0)
follow_asks rows (job.OneFile file (command.Prove search) stop) asks = absurd (other_name 102 112 _ _ (omega arith) asks.0.0)
follow_asks rows (job.Absent names settings) asks = absurd (other_name 102 97 _ _ (omega arith) asks.0)
follow_asks rows (job.Audit names settings) asks = absurd (other_name 102 97 _ _ (omega arith) asks.0)
follow_asks rows (job.Follow names settings) asks =
    let files = asks.3 in (
      asks.1,
      (record settings { bays = names.part.bays }, asks.4.0),
      record {
        yard = (names.yard.now, files.0);
        report = (names.report.now, files.1);
        after = λ one. (names.after, files.5);
        separator = (names.separator, files.8);
      },
    )
follow_asks rows (job.Compare names settings) asks =
    let files = asks.2 in (
      asks.1,
      (record settings { bays = asks.3.0 }, asks.3.1.0),
      record {
        yard = (names.yard.now, files.0);
        report = (names.report.now, files.1);
        after = λ one. (let e : Some names.second.now ≡ None = sym files.2 ∙ one in absurd cc);
        separator = (names.separator, files.5);
      },
    )
follow_asks rows (job.Solve names settings quiet progress) asks = absurd (other_name 102 115 _ _ (omega arith) asks.0)

follow_fault : (rows : List Row) (f : SettingFault) → IsFault (codes "follow") rows f
    → AreFollowWordsClear rows × IsInputFault rows f
follow_fault rows f (inl (is, first)) = absurd (other_name 102 112 _ _ (omega arith) is)
follow_fault rows f (inr (inl (is, first))) = absurd (other_name 102 115 _ _ (omega arith) is)
follow_fault rows f (inr (inr (inl (is, first)))) = absurd (other_name 102 97 _ _ (omega arith) is)
follow_fault rows f (inr (inr (inr (inl (is, first))))) = first
follow_fault rows f (inr (inr (inr (inr (inl (is, first)))))) = absurd (other_name 102 97 _ _ (omega arith) is)
follow_fault rows f (inr (inr (inr (inr (inr (is, first)))))) = absurd (other_name 102 99 _ _ (omega arith) is)

-- without an input follow asks for nothing
pub no_follow : (rows : List Row) (u : Usage) → AreFollowWordsClear rows → Lacks (HasInput rows) (IsInputFault rows) u
    → Lacks (Asks (codes "follow") rows) (IsFault (codes "follow") rows) u
no_follow rows u clear = lacks_more (HasInput rows) (Asks (codes "follow") rows) (IsInputFault rows) (IsFault (codes "follow") rows) u
    (λ j asks. (follow_asks rows j asks).1) (λ f first. inr (inr (inr (inl (refl, (clear, first)))))) (λ f first. inl (follow_fault rows f first).1)

-- so with one, and without a part of its files
pub no_part : {X : Type 0} (Has : X → Type 0) (rows : List Row) (s : InputChosen) (u : Usage)
    → (FindsFiles rows → (x : X) × Has x)
    → HasInput rows s → Lacks Has NoFault u → Lacks (Asks (codes "follow") rows) (IsFault (codes "follow") rows) u
no_part Has rows s u part_in has = lacks_more Has (Asks (codes "follow") rows) NoFault (IsFault (codes "follow") rows) u
    (λ j asks. part_in (follow_asks rows j asks).2) (λ f none. absurd none)
    (λ f first. absurd (no_input_fault rows s has f (follow_fault rows f first).1))

-- an input without its bays, and these
pub part_of_input : (rows : List Row) (input settings : InputChosen) (bays : List YardBay) → HasInput rows input → settings ≡ record input { bays = [] } → bays ≡ input.bays
    → IsPartOfInput rows bays settings
part_of_input rows input settings bays has same is =
    subst (IsPartOfInput rows bays) (sym same) (subst (λ (b : List YardBay). HasInput rows (record input { bays = b })) (sym is) has, refl)

-- nor without a number for the yard after, where that is wanted
pub no_after : (rows : List Row) (name : Text) (u : Usage) → HasText (codes "after") rows name → Lacks (MayHaveNumber (codes "loaded") rows) NoFault u
    → Lacks (MayNameAfter rows) NoFault u
no_after rows name u has = lacks_more (MayHaveNumber (codes "loaded") rows) (MayNameAfter rows) NoFault NoFault u number (λ f none. none) (λ f none. inl none)
  where
    number : (after : Option AfterFile) → MayNameAfter rows after → (n : Option ℕ) × MayHaveNumber (codes "loaded") rows n
    number None none = let e : Some name ≡ None = sym has ∙ none in absurd (cc)
    number (Some file) names = (file.loaded, names.1)

-- nor does it where its size is given twice
pub follow_sized_twice : (rows : List Row) (u : Usage) → IsSizedTwice rows → IsWordsOrMemory u
    → Lacks (Asks (codes "follow") rows) (IsFault (codes "follow") rows) u
follow_sized_twice rows u twice words = lacks (Asks (codes "follow") rows) (IsFault (codes "follow") rows) u words
    (λ j asks. (follow_asks rows j asks).0.0 twice) (λ f first. (follow_fault rows f first).0.0 twice)

-- nor where an order or a code is given without a message
pub follow_ordered_alone : (rows : List Row) (u : Usage) → IsOrderedAlone rows → IsWordsOrMemory u
    → Lacks (Asks (codes "follow") rows) (IsFault (codes "follow") rows) u
follow_ordered_alone rows u alone words = lacks (Asks (codes "follow") rows) (IsFault (codes "follow") rows) u words
    (λ j asks. (follow_asks rows j asks).0.1 alone) (λ f first. (follow_fault rows f first).0.1 alone)

-- nor where the ship's containers are counted without the yard after, or without a message
pub follow_loaded_alone : (rows : List Row) (u : Usage) → IsLoadedAlone rows → IsWordsOrMemory u
    → Lacks (Asks (codes "follow") rows) (IsFault (codes "follow") rows) u
follow_loaded_alone rows u alone words = lacks (Asks (codes "follow") rows) (IsFault (codes "follow") rows) u words
    (λ j asks. (follow_asks rows j asks).0.2 alone) (λ f first. (follow_fault rows f first).0.2 alone)

-- nor where a file that it writes is another of its files
pub follow_named_twice : (rows : List Row) (u : Usage) → IsFollowNamedTwice rows → IsWordsOrMemory u
    → Lacks (Asks (codes "follow") rows) (IsFault (codes "follow") rows) u
follow_named_twice rows u twice words = lacks (Asks (codes "follow") rows) (IsFault (codes "follow") rows) u words
    (λ j asks. (follow_asks rows j asks).0.3 twice) (λ f first. (follow_fault rows f first).0.3 twice)

-- nor where a second report is given beside what is made of one
pub follow_compared_beside : (rows : List Row) (u : Usage) → IsComparedBeside rows → IsWordsOrMemory u
    → Lacks (Asks (codes "follow") rows) (IsFault (codes "follow") rows) u
follow_compared_beside rows u beside words = lacks (Asks (codes "follow") rows) (IsFault (codes "follow") rows) u words
    (λ j asks. (follow_asks rows j asks).0.4 beside) (λ f first. (follow_fault rows f first).0.4 beside)
