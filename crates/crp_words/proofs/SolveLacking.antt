-- From what the rows of `prove` and `solve` lack to why no job comes of them.
use Rattle.std.proofs.Common.{◌≡◌, ◌⊎◌, List, refl, sym, subst, inl, inr, arith, codes}
use Rattle.clap.specs.Words.{Row, Text}
use Rattle.crp_solve.specs.Chosen.{Chosen}
use Rattle.crp_solve.specs.declared.settings.TimeLimits.{TimeLimits}
use Rattle.crp_report.specs.Chosen.{InputChosen, RunChosen}
use Rattle.crp_words.specs.Words.{HasSeparator, Asks, HasFiles, HasInput, HasSearch, HasSettings, HasText, HasTime, HasUntimed, IsFault, IsInputFault, IsNamedTwice, IsProveFault, IsSearchFault, IsSizedTwice, IsSolveFault, IsTimeFault, IsWordsOrMemory, Lacks, NoFault}
use Rattle.crp_jobs.specs.declared.job.Job.{Job}
use Rattle.crp_jobs.specs.declared.job.RunFiles.{RunFiles}
use Rattle.crp_jobs.specs.declared.job.FileCommand.TheVariants as command
use Rattle.crp_jobs.specs.declared.job.Job.TheVariants as job
use Rattle.crp_words.specs.declared.usage.SettingFault.{SettingFault}
use Rattle.crp_words.specs.declared.usage.Usage.{Usage}
use Rattle.crp_words.proofs.Lacking.{lacks, lacks_more, no_input_fault, no_search_fault, other_name}
use Rattle.crp_words.proofs.TimeLacking.{no_time_fault}

-- ---- the settings of solve

-- settings of a search and limits of time that were found are settings of a search with them
pub with_limits : (rows : List Row) (s timed : Chosen) (time : TimeLimits) → HasUntimed rows s → HasTime rows time → timed ≡ record s { time = time } → HasSearch rows timed
with_limits rows s timed time search timely is = subst (HasSearch rows) (sym is) (search, timely)

-- without settings of a search there are none of solve
pub no_search : (rows : List Row) (u : Usage) → Lacks (HasUntimed rows) (IsSearchFault rows) u → Lacks (HasSettings rows) (IsSolveFault rows) u
no_search rows u = lacks_more (HasUntimed rows) (HasSettings rows) (IsSearchFault rows) (IsSolveFault rows) u
    (λ s has. (s.search, has.0.0)) (λ f first. inl first)
    (λ f first. elim first [
      | inl h ↦ inl h
      | inr h ↦ inr h.0
    ])

-- nor are there without an input
pub no_input : (rows : List Row) (s : Chosen) (u : Usage) → HasUntimed rows s → Lacks (HasInput rows) (IsInputFault rows) u → Lacks (HasSettings rows) (IsSolveFault rows) u
no_input rows s u search = lacks_more (HasInput rows) (HasSettings rows) (IsInputFault rows) (IsSolveFault rows) u
    (λ s has. (s.input, has.1)) (λ f first. inr ((s, search), inl first)) down
  where
    down : (f : SettingFault) → IsSolveFault rows f → IsInputFault rows f ⊎ ((s : InputChosen) × HasInput rows s)
    down f (inl first) = absurd (no_search_fault rows s search f first)
    down f (inr (searched, inl first)) = inl first
    down f (inr (searched, inr first)) = inr first.0

-- nor without limits of time
pub no_time : (rows : List Row) (s : Chosen) (i : InputChosen) (u : Usage) → HasUntimed rows s → HasInput rows i → Lacks (HasTime rows) (IsTimeFault rows) u
    → Lacks (HasSettings rows) (IsSolveFault rows) u
no_time rows s i u search input = lacks_more (HasTime rows) (HasSettings rows) (IsTimeFault rows) (IsSolveFault rows) u
    (λ s has. (s.search.time, has.0.1)) (λ f first. inr ((s, search), inr ((i, input), first))) down
  where
    down : (f : SettingFault) → IsSolveFault rows f → IsTimeFault rows f ⊎ ((time : TimeLimits) × HasTime rows time)
    down f (inl first) = absurd (no_search_fault rows s search f first)
    down f (inr (searched, inl first)) = absurd (no_input_fault rows i input f first)
    down f (inr (searched, inr first)) = inl first.1

-- ---- what prove and solve ask for

-- what prove asks for has settings of a search, and a file
prove_asks : (rows : List Row) (j : Job) → Asks (codes "prove") rows j → ((s : Chosen) × HasSearch rows s) × ((file : Text) × HasText (codes "file") rows file)
prove_asks rows (job.OneFile file command.Replay stop) asks = absurd (other_name 112 114 _ _ (omega arith) asks.0)
prove_asks rows (job.OneFile file command.Rewrite stop) asks = absurd (other_name 112 114 _ _ (omega arith) asks.0)
prove_asks rows (job.OneFile file (command.Bound chains json) stop) asks = absurd (other_name 112 98 _ _ (omega arith) asks.0.0)
prove_asks rows (job.OneFile file (command.Check any_size workers json) stop) asks = absurd (other_name 112 99 _ _ (omega arith) asks.0.0)
prove_asks rows (job.OneFile file (command.Prove search) stop) asks = ((search, asks.0.1), (file.now, asks.1))
prove_asks rows (job.Absent names settings) asks = absurd (other_name 112 97 _ _ (omega arith) asks.0)
prove_asks rows (job.Audit names settings) asks = absurd (other_name 112 97 _ _ (omega arith) asks.0)
prove_asks rows (job.Follow names settings) asks = absurd (other_name 112 102 _ _ (omega arith) asks.0)
prove_asks rows (job.Compare names settings) asks = absurd (other_name 112 102 _ _ (omega arith) asks.0)
prove_asks rows (job.Solve names settings quiet progress) asks = absurd (other_name 112 115 _ _ (omega arith) asks.0)

-- a fault of prove is that of its settings
prove_fault : (rows : List Row) (f : SettingFault) → IsFault (codes "prove") rows f → IsProveFault rows f
prove_fault rows f (inl (is, first)) = first
prove_fault rows f (inr (inl (is, first))) = absurd (other_name 112 115 _ _ (omega arith) is)
prove_fault rows f (inr (inr (inl (is, first)))) = absurd (other_name 112 97 _ _ (omega arith) is)
prove_fault rows f (inr (inr (inr (inl (is, first))))) = absurd (other_name 112 102 _ _ (omega arith) is)
prove_fault rows f (inr (inr (inr (inr (inl (is, first)))))) = absurd (other_name 112 97 _ _ (omega arith) is)
prove_fault rows f (inr (inr (inr (inr (inr (is, first)))))) = absurd (other_name 112 99 _ _ (omega arith) is)

-- without settings of a search prove asks for nothing
pub no_prove : (rows : List Row) (u : Usage) → Lacks (HasUntimed rows) (IsSearchFault rows) u
    → Lacks (Asks (codes "prove") rows) (IsFault (codes "prove") rows) u
no_prove rows u = lacks_more (HasUntimed rows) (Asks (codes "prove") rows) (IsSearchFault rows) (IsFault (codes "prove") rows) u
    (λ j asks. let search = (prove_asks rows j asks).0 in (search.0, search.1.0)) (λ f first. inl (refl, inl first))
    (λ f first. elim (prove_fault rows f first) [
      | inl h ↦ inl h
      | inr h ↦ inr h.0
    ])

-- nor does it without limits of time
pub no_prove_time : (rows : List Row) (s : Chosen) (u : Usage) → HasUntimed rows s → Lacks (HasTime rows) (IsTimeFault rows) u
    → Lacks (Asks (codes "prove") rows) (IsFault (codes "prove") rows) u
no_prove_time rows s u search = lacks_more (HasTime rows) (Asks (codes "prove") rows) (IsTimeFault rows) (IsFault (codes "prove") rows) u
    (λ j asks. let search = (prove_asks rows j asks).0 in (search.0.time, search.1.1)) (λ f first. inl (refl, inr ((s, search), first)))
    (λ f first. elim (prove_fault rows f first) [
      | inl h ↦ absurd (no_search_fault rows s search f h)
      | inr h ↦ inl h.1
    ])

-- nor does it without a file
pub no_prove_file : (rows : List Row) (s : Chosen) (time : TimeLimits) (u : Usage) → HasUntimed rows s → HasTime rows time → Lacks (HasText (codes "file") rows) NoFault u
    → Lacks (Asks (codes "prove") rows) (IsFault (codes "prove") rows) u
no_prove_file rows s time u search timely = lacks_more (HasText (codes "file") rows) (Asks (codes "prove") rows) NoFault (IsFault (codes "prove") rows) u
    (λ j asks. (prove_asks rows j asks).1) (λ f none. absurd none)
    (λ f first. elim (prove_fault rows f first) [
      | inl h ↦ absurd (no_search_fault rows s search f h)
      | inr h ↦ absurd (no_time_fault rows time timely f h.1)
    ])

-- what solve asks for has its size once and each file once, files, and settings
solve_asks : (rows : List Row) (j : Job) → Asks (codes "solve") rows j
    → ¬ IsSizedTwice rows × ¬ IsNamedTwice rows × ((names : RunFiles) × HasFiles rows names) × ((s : RunChosen) × HasSettings rows s)
solve_asks rows (job.OneFile file command.Replay stop) asks = absurd (other_name 115 114 _ _ (omega arith) asks.0)
solve_asks rows (job.OneFile file command.Rewrite stop) asks = absurd (other_name 115 114 _ _ (omega arith) asks.0)
solve_asks rows (job.OneFile file (command.Bound chains json) stop) asks = absurd (other_name 115 98 _ _ (omega arith) asks.0.0)
solve_asks rows (job.OneFile file (command.Check any_size workers json) stop) asks = absurd (other_name 115 99 _ _ (omega arith) asks.0.0)
solve_asks rows (job.OneFile file (command.Prove search) stop) asks = absurd (other_name 115 112 _ _ (omega arith) asks.0.0)
solve_asks rows (job.Absent names settings) asks = absurd (other_name 115 97 _ _ (omega arith) asks.0)
solve_asks rows (job.Audit names settings) asks = absurd (other_name 115 97 _ _ (omega arith) asks.0)
solve_asks rows (job.Follow names settings) asks = absurd (other_name 115 102 _ _ (omega arith) asks.0)
solve_asks rows (job.Compare names settings) asks = absurd (other_name 115 102 _ _ (omega arith) asks.0)
solve_asks rows (job.Solve names settings quiet progress) asks = (asks.1, asks.2, (names, asks.3), (settings, asks.4))

solve_fault : (rows : List Row) (f : SettingFault) → IsFault (codes "solve") rows f → ¬ IsSizedTwice rows × ¬ IsNamedTwice rows × IsSolveFault rows f
solve_fault rows f (inl (is, first)) = absurd (other_name 115 112 _ _ (omega arith) is)
solve_fault rows f (inr (inl (is, first))) = first
solve_fault rows f (inr (inr (inl (is, first)))) = absurd (other_name 115 97 _ _ (omega arith) is)
solve_fault rows f (inr (inr (inr (inl (is, first))))) = absurd (other_name 115 102 _ _ (omega arith) is)
solve_fault rows f (inr (inr (inr (inr (inl (is, first)))))) = absurd (other_name 115 97 _ _ (omega arith) is)
solve_fault rows f (inr (inr (inr (inr (inr (is, first)))))) = absurd (other_name 115 99 _ _ (omega arith) is)

-- without settings solve asks for nothing
pub no_solve : (rows : List Row) (u : Usage) → ¬ IsSizedTwice rows → ¬ IsNamedTwice rows → Lacks (HasSettings rows) (IsSolveFault rows) u
    → Lacks (Asks (codes "solve") rows) (IsFault (codes "solve") rows) u
no_solve rows u once apart = lacks_more (HasSettings rows) (Asks (codes "solve") rows) (IsSolveFault rows) (IsFault (codes "solve") rows) u
    (λ j asks. (solve_asks rows j asks).3) (λ f first. inr (inl (refl, (once, apart, first)))) (λ f first. inl (solve_fault rows f first).2)

no_settings_fault : (rows : List Row) (s : RunChosen) → HasSettings rows s → (f : SettingFault) → IsSolveFault rows f → ⊥
no_settings_fault rows s has f (inl first) = no_search_fault rows s.search has.0.0 f first
no_settings_fault rows s has f (inr (search, inl first)) = no_input_fault rows s.input has.1 f first
no_settings_fault rows s has f (inr (search, inr first)) = no_time_fault rows s.search.time has.0.1 f first.1

-- so with settings, and without one of its inputs, solve asks for nothing
pub no_yard : (rows : List Row) (s : RunChosen) (u : Usage) → HasSettings rows s → Lacks (HasText (codes "yard") rows) NoFault u
    → Lacks (Asks (codes "solve") rows) (IsFault (codes "solve") rows) u
no_yard rows s u has = lacks_more (HasText (codes "yard") rows) (Asks (codes "solve") rows) NoFault (IsFault (codes "solve") rows) u
    (λ j asks. let files = (solve_asks rows j asks).2 in (files.0.yard.now, files.1.0)) (λ f none. absurd none)
    (λ f first. absurd (no_settings_fault rows s has f (solve_fault rows f first).2))

pub no_movins : (rows : List Row) (s : RunChosen) (u : Usage) → HasSettings rows s → Lacks (HasText (codes "movins") rows) NoFault u
    → Lacks (Asks (codes "solve") rows) (IsFault (codes "solve") rows) u
no_movins rows s u has = lacks_more (HasText (codes "movins") rows) (Asks (codes "solve") rows) NoFault (IsFault (codes "solve") rows) u
    (λ j asks. let files = (solve_asks rows j asks).2 in (files.0.movins.now, files.1.1)) (λ f none. absurd none)
    (λ f first. absurd (no_settings_fault rows s has f (solve_fault rows f first).2))

pub no_solve_separator : (rows : List Row) (s : RunChosen) (u : Usage) → HasSettings rows s → Lacks (HasSeparator rows) NoFault u
    → Lacks (Asks (codes "solve") rows) (IsFault (codes "solve") rows) u
no_solve_separator rows s u has = lacks_more (HasSeparator rows) (Asks (codes "solve") rows) NoFault (IsFault (codes "solve") rows) u
    (λ j asks. let files = (solve_asks rows j asks).2 in (files.0.separator, files.1.7)) (λ f none. absurd none)
    (λ f first. absurd (no_settings_fault rows s has f (solve_fault rows f first).2))

-- nor does it where its size is given twice
pub solve_sized_twice : (rows : List Row) (u : Usage) → IsSizedTwice rows → IsWordsOrMemory u
    → Lacks (Asks (codes "solve") rows) (IsFault (codes "solve") rows) u
solve_sized_twice rows u twice words = lacks (Asks (codes "solve") rows) (IsFault (codes "solve") rows) u words
    (λ j asks. (solve_asks rows j asks).0 twice) (λ f first. (solve_fault rows f first).0 twice)

-- nor where two of its files are one
pub solve_named_twice : (rows : List Row) (u : Usage) → IsNamedTwice rows → IsWordsOrMemory u
    → Lacks (Asks (codes "solve") rows) (IsFault (codes "solve") rows) u
solve_named_twice rows u twice words = lacks (Asks (codes "solve") rows) (IsFault (codes "solve") rows) u words
    (λ j asks. (solve_asks rows j asks).1 twice) (λ f first. (solve_fault rows f first).1 twice)
