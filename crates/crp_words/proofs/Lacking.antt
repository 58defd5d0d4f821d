-- From what a command's rows lack to why no job comes of them.
use Rattle.std.proofs.Common.{◌≡◌, ◌≢◌, ◌∙◌, ◌⊎◌, ◌<◌, ◌^◌, ◌∷◌, ℕ, List, Option, Some, None, IfSome, IfNone, Result, refl, sym, subst, inl, inr, ap, arith, codes, slice_index}
use Rattle.std.specs.Str.Parse.{ParsesUnsigned, ExplainsUnsignedError, HasUnsignedDigitsIfOk, digits_value, without_leading_plus}
use Rattle.std.specs.declared.num.ParseIntError.{ParseIntError}
use Rattle.clap.specs.Words.{Row, Text, first_of}
use Rattle.clap.specs.Matches.{ReadsOne}
use Rattle.crp_solve.specs.Chosen.{Chosen}
use Rattle.crp_solve.specs.declared.settings.TimeLimits.{TimeLimits}
use Rattle.crp_words.specs.Words.{Asks, HasBudget, HasNumber, HasNumberBeyond, HasNumberWithin, FindsSizes, FindsRows, FindsBays, AreBaysBeyond, HasInput, HasUntimed, HasSplit, HasBeam, HasThin, HasFlags, HasNumberOrStrong, HasOwnNumberBeyond, FindsTiers, HasWorkers, MayFindHeights, IsBudgetBeyond, IsSplitBeyond, IsBeamBeyond, IsThinBeyond, IsLeftToStrong, AreRowsBeyond, AreTiersBeyond, AreHeightsBeyond, AreWorkersBeyond, IsFault, IsInputFault, IsJust, IsSearchFault, IsSizedTwice, IsWordsOrMemory, Lacks, MayHaveNumber, NoFault, ReadsNumber, HasSeparator, HasText, separator_in}
use Rattle.crp_jobs.specs.declared.job.Job.{Job}
use Rattle.crp_plan.specs.BayNames.{YardBay}
use Rattle.crp_sizes.specs.Heights.{IsHeightsText}
use Rattle.crp_sizes.specs.Sizes.{YardSizes}
use Rattle.crp_report.specs.Chosen.{InputChosen}
use Rattle.crp_jobs.specs.declared.job.FileCommand.TheVariants as command
use Rattle.crp_jobs.specs.declared.job.Job.TheVariants as job
use Rattle.crp_words.specs.declared.usage.Mistake.TheVariants as mistake
use Rattle.crp_words.specs.declared.usage.SettingFault.{SettingFault}
use Rattle.crp_words.specs.declared.usage.SettingFault.TheVariants as setting
use Rattle.crp_words.specs.declared.usage.Usage.{Usage}
use Rattle.crp_words.specs.declared.usage.Usage.TheVariants as usage
use Rattle.crp_solve.specs.declared.settings.TheConstants.{MAX_BUDGET, MAX_BEAM, MAX_THIN}

-- what u64's reading of a text gives
abbrev Gives : List ℕ → Result ℕ ParseIntError → Type 0
Gives bs r = ParsesUnsigned 64 10 bs r × ExplainsUnsignedError 10 bs r × HasUnsignedDigitsIfOk bs r

-- a number that is read is the number of the text
pub number_some : (o : Option Text) (r : Option ℕ) → (o ≡ None → r ≡ None)
    → ((t : Text) → o ≡ Some t → ReadsOne {E = ParseIntError} Gives t r) → IfSome r (ReadsNumber o)
number_some None r none value = rw (none refl) tt
number_some (Some t) None none value = tt
number_some (Some t) (Some n) none value = let (reads, why, digits) = value t refl in (t, refl, reads.0.0, reads.1, subst (λ (m : ℕ). m < 2 ^ 64) (sym reads.1) reads.0.1)

-- where none is read, there is none
pub number_none : (o : Option Text) (r : Option ℕ)
    → ((t : Text) → o ≡ Some t → ReadsOne {E = ParseIntError} Gives t r)
    → IfNone r ((n : ℕ) → ReadsNumber o n → ⊥)
number_none o (Some n) value = tt
number_none o None value = λ n reads.
    let (t, found, numeral, is, small) = reads in
    let (e, why) = value t found in
    why.0 (numeral, subst (λ (m : ℕ). m < 2 ^ 64) is small)

-- the rows have one number for an option at most
pub one_number : (id : Text) (rows : List Row) (m n : ℕ) → HasNumber id rows m → HasNumber id rows n → m ≡ n
one_number id rows m n (t, found, a, is, b) (u, same, d, equals, e) =
    let some : Some t ≡ Some u = sym found ∙ same in
    let texts : t ≡ u = cc in
    is ∙ ap (λ (x : Text). digits_value 10 (without_leading_plus x)) texts ∙ sym equals

-- a number is within its limits or beyond them, and not both
pub not_both : (id : Text) (least most : ℕ) (rows : List Row) (n : ℕ) → HasNumberWithin id least most rows n → HasNumberBeyond id least most rows → ⊥
not_both id least most rows n within (m, has, inl below) =
    let same = one_number id rows n m within.0 has in omega (arith, same, within.1, below)
not_both id least most rows n within (m, has, inr above) =
    let same = one_number id rows n m within.0 has in omega (arith, same, within.2, above)

-- so it is with one that may be left to --strong
pub not_both_own : (id : Text) (most strong : ℕ) (rows : List Row) (n : ℕ) → HasNumberOrStrong id most strong rows n → HasOwnNumberBeyond id most rows → ⊥
not_both_own id most strong rows n (inl (left, is)) (own, beyond) = own left
not_both_own id most strong rows n (inr (own, within)) beyond = not_both id 0 most rows n within beyond.1

-- the refusal by words where there is nothing, and no number beyond its limits
pub lacks : {X : Type 0} (Has : X → Type 0) (IsFirst : SettingFault → Type 0) (u : Usage) → IsWordsOrMemory u
    → ((x : X) → Has x → ⊥) → ((f : SettingFault) → IsFirst f → ⊥) → Lacks Has IsFirst u
lacks Has IsFirst usage.Memory words none faultless = tt
lacks Has IsFirst (usage.Help text) words none faultless = absurd words
lacks Has IsFirst (usage.Wrong (mistake.Words text)) words none faultless = (none, faultless)
lacks Has IsFirst (usage.Wrong (mistake.Setting f)) words none faultless = absurd words

-- the refusal by words where there is a text, and no number
pub no_number : (id : Text) (rows : List Row) (u : Usage) → IsWordsOrMemory u → ¬ (first_of id rows ≡ None)
    → ((n : ℕ) → HasNumber id rows n → ⊥) → Lacks (MayHaveNumber id rows) NoFault u
no_number id rows u words found none = lacks (MayHaveNumber id rows) NoFault u words without (λ f at. at)
  where
    without : (number : Option ℕ) → MayHaveNumber id rows number → ⊥
    without None absent = found absent
    without (Some n) has = none n has

-- what needs a thing that lacks, lacks too
pub lacks_more : {X Y : Type 0} (Has : X → Type 0) (Needs : Y → Type 0) (F G : SettingFault → Type 0) (u : Usage)
    → ((y : Y) → Needs y → (x : X) × Has x) → ((f : SettingFault) → F f → G f)
    → ((f : SettingFault) → G f → F f ⊎ ((x : X) × Has x)) → Lacks Has F u → Lacks Needs G u
lacks_more Has Needs F G usage.Memory needs up down lacking = tt
lacks_more Has Needs F G (usage.Help text) needs up down lacking = absurd lacking
lacks_more Has Needs F G (usage.Wrong (mistake.Words text)) needs up down lacking = (
  λ y have. lacking.0 (needs y have).0 (needs y have).1,
  λ f first. elim (down f first) [
    | inl h ↦ lacking.1 f h
    | inr h ↦ lacking.0 h.0 h.1
  ],
)
lacks_more Has Needs F G (usage.Wrong (mistake.Setting f)) needs up down lacking =
    (λ y have. lacking.0 (needs y have).0 (needs y have).1, up f lacking.1)

-- a number that is lacking, and not left to --strong, is lacking with it
pub no_own : (id : Text) (most strong : ℕ) (rows : List Row) (given : SettingFault) (u : Usage) → ¬ IsLeftToStrong id rows
    → Lacks (HasNumberWithin id 0 most rows) (IsJust given (HasNumberBeyond id 0 most rows)) u
    → Lacks (HasNumberOrStrong id most strong rows) (IsJust given (HasOwnNumberBeyond id most rows)) u
no_own id most strong rows given u own = lacks_more (HasNumberWithin id 0 most rows) (HasNumberOrStrong id most strong rows)
    (IsJust given (HasNumberBeyond id 0 most rows)) (IsJust given (HasOwnNumberBeyond id most rows)) u within
    (λ f just. (just.0, (own, just.1))) (λ f just. inl (just.0, just.1.1))
  where
    within : (n : ℕ) → HasNumberOrStrong id most strong rows n → (m : ℕ) × HasNumberWithin id 0 most rows m
    within n (inl (left, is)) = absurd (own left)
    within n (inr (yet, has)) = (n, has)

-- ---- a number within its limits is no fault

pub no_workers_fault : (rows : List Row) (n : ℕ) → HasWorkers rows n → AreWorkersBeyond rows → ⊥
no_workers_fault rows n has beyond = not_both (codes "workers") 1 64 rows n has beyond

no_budget_fault : (rows : List Row) (n : ℕ) → HasBudget rows n → IsBudgetBeyond rows → ⊥
no_budget_fault rows n has beyond = not_both (codes "budget") 0 MAX_BUDGET rows n has beyond

no_split_fault : (rows : List Row) (n : ℕ) → HasSplit rows n → IsSplitBeyond rows → ⊥
no_split_fault rows n has beyond = not_both (codes "split") 0 8 rows n has beyond

no_beam_fault : (rows : List Row) (n : ℕ) → HasBeam rows n → IsBeamBeyond rows → ⊥
no_beam_fault rows n has beyond = not_both_own (codes "beam") MAX_BEAM 100 rows n has beyond

no_thin_fault : (rows : List Row) (n : ℕ) → HasThin rows n → IsThinBeyond rows → ⊥
no_thin_fault rows n has beyond = not_both_own (codes "thin") MAX_THIN 10000 rows n has beyond

no_rows_fault : (rows : List Row) (n : ℕ) → FindsRows rows n → AreRowsBeyond rows → ⊥
no_rows_fault rows n has beyond = not_both (codes "rows") 1 12 rows n has beyond

no_tiers_fault : (rows : List Row) (n : ℕ) → FindsTiers rows n → AreTiersBeyond rows → ⊥
no_tiers_fault rows n has beyond = not_both (codes "tiers") 1 8 rows n has beyond

no_heights_fault : (rows : List Row) (own : Option (List ℕ)) → MayFindHeights rows own → AreHeightsBeyond rows → ⊥
no_heights_fault rows None has (text, found, none) = let e : None ≡ Some text = sym has ∙ found in cc
no_heights_fault rows (Some heights) (text, has, is) (other, found, none) =
    let e : Some text ≡ Some other = sym has ∙ found in
    let same : text ≡ other = cc in
    none heights (subst (IsHeightsText heights) same is)

-- the settings of a search within their limits have no fault
pub no_search_fault : (rows : List Row) (s : Chosen) → HasUntimed rows s → (f : SettingFault) → IsSearchFault rows f → ⊥
no_search_fault rows s has setting.Workers beyond = no_workers_fault rows s.workers has.0 beyond
no_search_fault rows s has setting.Budget first = no_budget_fault rows s.budget has.1 first.1
no_search_fault rows s has setting.Split first = no_split_fault rows s.split has.2 first.2
no_search_fault rows s has setting.Beam first = no_beam_fault rows s.beam has.3 first.3
no_search_fault rows s has setting.Thin first = no_thin_fault rows s.thin has.4 first.4
no_search_fault rows s has setting.Rows none = none
no_search_fault rows s has setting.Tiers none = none
no_search_fault rows s has setting.Heights none = none
no_search_fault rows s has setting.Bay none = none
no_search_fault rows s has setting.Seconds none = none
no_search_fault rows s has setting.TotalSeconds none = none

-- settings of a search have these numbers, whatever their flags and their limits of time
pub have_numbers : (rows : List Row) (s : Chosen) (w b t m n : ℕ) (time : TimeLimits) → HasWorkers rows w → HasBudget rows b → HasSplit rows t → HasBeam rows m → HasThin rows n → HasFlags rows s
    → s ≡ record { workers = w; budget = b; split = t; first = s.first; beam = m; deepen = s.deepen; thin = n; chains = s.chains; time = time }
    → HasUntimed rows s
have_numbers rows s w b t m n time workers budget split beam thin flags is = (
  subst (HasWorkers rows) (sym (ap (λ (c : Chosen). c.workers) is)) workers,
  subst (HasBudget rows) (sym (ap (λ (c : Chosen). c.budget) is)) budget,
  subst (HasSplit rows) (sym (ap (λ (c : Chosen). c.split) is)) split,
  subst (HasBeam rows) (sym (ap (λ (c : Chosen). c.beam) is)) beam,
  subst (HasThin rows) (sym (ap (λ (c : Chosen). c.thin) is)) thin,
  flags,
)

-- ---- the settings of a search, number by number

-- without workers within their limits there are no settings of a search
pub no_workers : (rows : List Row) (u : Usage) → Lacks (HasWorkers rows) (IsJust setting.Workers (AreWorkersBeyond rows)) u
    → Lacks (HasUntimed rows) (IsSearchFault rows) u
no_workers rows u = lacks_more (HasWorkers rows) (HasUntimed rows) (IsJust setting.Workers (AreWorkersBeyond rows)) (IsSearchFault rows) u
    (λ s has. (s.workers, has.0)) (λ f just. subst (IsSearchFault rows) (sym just.0) just.1) down
  where
    down : (f : SettingFault) → IsSearchFault rows f → IsJust setting.Workers (AreWorkersBeyond rows) f ⊎ ((n : ℕ) × HasWorkers rows n)
    down setting.Workers beyond = inl (refl, beyond)
    down setting.Budget first = inr first.0
    down setting.Split first = inr first.0
    down setting.Beam first = inr first.0
    down setting.Thin first = inr first.0
    down setting.Rows none = absurd none
    down setting.Tiers none = absurd none
    down setting.Heights none = absurd none
    down setting.Bay none = absurd none
    down setting.Seconds none = absurd none
    down setting.TotalSeconds none = absurd none

-- nor are there without a budget within its limit
pub no_budget : (rows : List Row) (w : ℕ) (u : Usage) → HasWorkers rows w → Lacks (HasBudget rows) (IsJust setting.Budget (IsBudgetBeyond rows)) u
    → Lacks (HasUntimed rows) (IsSearchFault rows) u
no_budget rows w u workers = lacks_more (HasBudget rows) (HasUntimed rows) (IsJust setting.Budget (IsBudgetBeyond rows)) (IsSearchFault rows) u
    (λ s has. (s.budget, has.1)) (λ f just. subst (IsSearchFault rows) (sym just.0) ((w, workers), just.1)) down
  where
    down : (f : SettingFault) → IsSearchFault rows f → IsJust setting.Budget (IsBudgetBeyond rows) f ⊎ ((n : ℕ) × HasBudget rows n)
    down setting.Workers beyond = absurd (no_workers_fault rows w workers beyond)
    down setting.Budget first = inl (refl, first.1)
    down setting.Split first = inr first.1
    down setting.Beam first = inr first.1
    down setting.Thin first = inr first.1
    down setting.Rows none = absurd none
    down setting.Tiers none = absurd none
    down setting.Heights none = absurd none
    down setting.Bay none = absurd none
    down setting.Seconds none = absurd none
    down setting.TotalSeconds none = absurd none

-- nor without a split within its limit
pub no_split : (rows : List Row) (w b : ℕ) (u : Usage) → HasWorkers rows w → HasBudget rows b
    → Lacks (HasSplit rows) (IsJust setting.Split (IsSplitBeyond rows)) u → Lacks (HasUntimed rows) (IsSearchFault rows) u
no_split rows w b u workers budget = lacks_more (HasSplit rows) (HasUntimed rows) (IsJust setting.Split (IsSplitBeyond rows)) (IsSearchFault rows) u
    (λ s has. (s.split, has.2)) (λ f just. subst (IsSearchFault rows) (sym just.0) ((w, workers), (b, budget), just.1)) down
  where
    down : (f : SettingFault) → IsSearchFault rows f → IsJust setting.Split (IsSplitBeyond rows) f ⊎ ((n : ℕ) × HasSplit rows n)
    down setting.Workers beyond = absurd (no_workers_fault rows w workers beyond)
    down setting.Budget first = absurd (no_budget_fault rows b budget first.1)
    down setting.Split first = inl (refl, first.2)
    down setting.Beam first = inr first.2
    down setting.Thin first = inr first.2
    down setting.Rows none = absurd none
    down setting.Tiers none = absurd none
    down setting.Heights none = absurd none
    down setting.Bay none = absurd none
    down setting.Seconds none = absurd none
    down setting.TotalSeconds none = absurd none

-- nor without a beam within its limit
pub no_beam : (rows : List Row) (w b t : ℕ) (u : Usage) → HasWorkers rows w → HasBudget rows b → HasSplit rows t
    → Lacks (HasBeam rows) (IsJust setting.Beam (IsBeamBeyond rows)) u → Lacks (HasUntimed rows) (IsSearchFault rows) u
no_beam rows w b t u workers budget split = lacks_more (HasBeam rows) (HasUntimed rows) (IsJust setting.Beam (IsBeamBeyond rows)) (IsSearchFault rows) u
    (λ s has. (s.beam, has.3)) (λ f just. subst (IsSearchFault rows) (sym just.0) ((w, workers), (b, budget), (t, split), just.1)) down
  where
    down : (f : SettingFault) → IsSearchFault rows f → IsJust setting.Beam (IsBeamBeyond rows) f ⊎ ((n : ℕ) × HasBeam rows n)
    down setting.Workers beyond = absurd (no_workers_fault rows w workers beyond)
    down setting.Budget first = absurd (no_budget_fault rows b budget first.1)
    down setting.Split first = absurd (no_split_fault rows t split first.2)
    down setting.Beam first = inl (refl, first.3)
    down setting.Thin first = inr first.3
    down setting.Rows none = absurd none
    down setting.Tiers none = absurd none
    down setting.Heights none = absurd none
    down setting.Bay none = absurd none
    down setting.Seconds none = absurd none
    down setting.TotalSeconds none = absurd none

-- nor without thinned branches within their limit
pub no_thin : (rows : List Row) (w b t m : ℕ) (u : Usage) → HasWorkers rows w → HasBudget rows b → HasSplit rows t → HasBeam rows m
    → Lacks (HasThin rows) (IsJust setting.Thin (IsThinBeyond rows)) u → Lacks (HasUntimed rows) (IsSearchFault rows) u
no_thin rows w b t m u workers budget split beam = lacks_more (HasThin rows) (HasUntimed rows) (IsJust setting.Thin (IsThinBeyond rows)) (IsSearchFault rows) u
    (λ s has. (s.thin, has.4)) (λ f just. subst (IsSearchFault rows) (sym just.0) ((w, workers), (b, budget), (t, split), (m, beam), just.1)) down
  where
    down : (f : SettingFault) → IsSearchFault rows f → IsJust setting.Thin (IsThinBeyond rows) f ⊎ ((n : ℕ) × HasThin rows n)
    down setting.Workers beyond = absurd (no_workers_fault rows w workers beyond)
    down setting.Budget first = absurd (no_budget_fault rows b budget first.1)
    down setting.Split first = absurd (no_split_fault rows t split first.2)
    down setting.Beam first = absurd (no_beam_fault rows m beam first.3)
    down setting.Thin first = inl (refl, first.4)
    down setting.Rows none = absurd none
    down setting.Tiers none = absurd none
    down setting.Heights none = absurd none
    down setting.Bay none = absurd none
    down setting.Seconds none = absurd none
    down setting.TotalSeconds none = absurd none

-- ---- what the input means

-- without rows within their limits there are no heights of rows
pub no_rows : (rows : List Row) (u : Usage) → Lacks (FindsRows rows) (IsJust setting.Rows (AreRowsBeyond rows)) u → Lacks (FindsSizes rows) (IsInputFault rows) u
no_rows rows u = lacks_more (FindsRows rows) (FindsSizes rows) (IsJust setting.Rows (AreRowsBeyond rows)) (IsInputFault rows) u
    (λ heights has. (has.rows, has.finds_rows)) (λ f just. subst (IsInputFault rows) (sym just.0) just.1) down
  where
    down : (f : SettingFault) → IsInputFault rows f → IsJust setting.Rows (AreRowsBeyond rows) f ⊎ ((n : ℕ) × FindsRows rows n)
    down setting.Workers none = absurd none
    down setting.Budget none = absurd none
    down setting.Split none = absurd none
    down setting.Beam none = absurd none
    down setting.Thin none = absurd none
    down setting.Rows first = inl (refl, first)
    down setting.Tiers first = inr first.0
    down setting.Heights first = inr first.0
    down setting.Bay first = inr (first.0.1.rows, first.0.1.finds_rows)
    down setting.Seconds none = absurd none
    down setting.TotalSeconds none = absurd none

-- nor are there without tiers within their limits
pub no_tiers : (rows : List Row) (r : ℕ) (u : Usage) → FindsRows rows r → Lacks (FindsTiers rows) (IsJust setting.Tiers (AreTiersBeyond rows)) u
    → Lacks (FindsSizes rows) (IsInputFault rows) u
no_tiers rows r u has_rows = lacks_more (FindsTiers rows) (FindsSizes rows) (IsJust setting.Tiers (AreTiersBeyond rows)) (IsInputFault rows) u
    (λ heights has. (has.tiers, has.finds_tiers)) (λ f just. subst (IsInputFault rows) (sym just.0) ((r, has_rows), just.1)) down
  where
    down : (f : SettingFault) → IsInputFault rows f → IsJust setting.Tiers (AreTiersBeyond rows) f ⊎ ((n : ℕ) × FindsTiers rows n)
    down setting.Workers none = absurd none
    down setting.Budget none = absurd none
    down setting.Split none = absurd none
    down setting.Beam none = absurd none
    down setting.Thin none = absurd none
    down setting.Rows first = absurd (no_rows_fault rows r has_rows first)
    down setting.Tiers first = inl (refl, first.1)
    down setting.Heights first = inr first.1
    down setting.Bay first = inr (first.0.1.tiers, first.0.1.finds_tiers)
    down setting.Seconds none = absurd none
    down setting.TotalSeconds none = absurd none

-- nor without heights that can be chosen, where heights are given
pub no_heights : (rows : List Row) (r t : ℕ) (u : Usage) → FindsRows rows r → FindsTiers rows t
    → Lacks (MayFindHeights rows) (IsJust setting.Heights (AreHeightsBeyond rows)) u → Lacks (FindsSizes rows) (IsInputFault rows) u
no_heights rows r t u has_rows has_tiers = lacks_more (MayFindHeights rows) (FindsSizes rows) (IsJust setting.Heights (AreHeightsBeyond rows)) (IsInputFault rows) u
    (λ heights has. (has.own, has.finds_own)) (λ f just. subst (IsInputFault rows) (sym just.0) ((r, has_rows), (t, has_tiers), just.1)) down
  where
    down : (f : SettingFault) → IsInputFault rows f → IsJust setting.Heights (AreHeightsBeyond rows) f ⊎ ((heights : Option (List ℕ)) × MayFindHeights rows heights)
    down setting.Workers none = absurd none
    down setting.Budget none = absurd none
    down setting.Split none = absurd none
    down setting.Beam none = absurd none
    down setting.Thin none = absurd none
    down setting.Rows first = absurd (no_rows_fault rows r has_rows first)
    down setting.Tiers first = absurd (no_tiers_fault rows t has_tiers first.1)
    down setting.Heights first = inl (refl, first.2)
    down setting.Bay first = inr (first.0.1.own, first.0.1.finds_own)
    down setting.Seconds none = absurd none
    down setting.TotalSeconds none = absurd none

-- sizes and bays that were found have no fault
found_faultless : (rows : List Row) (sizes : YardSizes) (bays : List YardBay) → FindsSizes rows sizes → FindsBays rows bays → (f : SettingFault) → IsInputFault rows f → ⊥
found_faultless rows sizes bays has named setting.Workers none = none
found_faultless rows sizes bays has named setting.Budget none = none
found_faultless rows sizes bays has named setting.Split none = none
found_faultless rows sizes bays has named setting.Beam none = none
found_faultless rows sizes bays has named setting.Thin none = none
found_faultless rows sizes bays has named setting.Rows beyond = no_rows_fault rows has.rows has.finds_rows beyond
found_faultless rows sizes bays has named setting.Tiers first = no_tiers_fault rows has.tiers has.finds_tiers first.1
found_faultless rows sizes bays has named setting.Heights first = no_heights_fault rows has.own has.finds_own first.2
found_faultless rows sizes bays has named setting.Bay first = first.1 bays named
found_faultless rows sizes bays has named setting.Seconds none = none
found_faultless rows sizes bays has named setting.TotalSeconds none = none

-- without bays that are named right there is no input
pub no_bays : (rows : List Row) (sizes : YardSizes) (u : Usage) → FindsSizes rows sizes → Lacks (FindsBays rows) (IsJust setting.Bay (AreBaysBeyond rows)) u
    → Lacks (HasInput rows) (IsInputFault rows) u
no_bays rows sizes u has = lacks_more (FindsBays rows) (HasInput rows) (IsJust setting.Bay (AreBaysBeyond rows)) (IsInputFault rows) u
    (λ s all. (s.bays, all.1)) (λ f just. subst (IsInputFault rows) (sym just.0) ((sizes, has), just.1)) down
  where
    down : (f : SettingFault) → IsInputFault rows f → IsJust setting.Bay (AreBaysBeyond rows) f ⊎ ((bays : List YardBay) × FindsBays rows bays)
    down setting.Workers none = absurd none
    down setting.Budget none = absurd none
    down setting.Split none = absurd none
    down setting.Beam none = absurd none
    down setting.Thin none = absurd none
    down setting.Rows beyond = absurd (no_rows_fault rows has.rows has.finds_rows beyond)
    down setting.Tiers first = absurd (no_tiers_fault rows has.tiers has.finds_tiers first.1)
    down setting.Heights first = absurd (no_heights_fault rows has.own has.finds_own first.2)
    down setting.Bay first = inl (refl, first.1)
    down setting.Seconds none = absurd none
    down setting.TotalSeconds none = absurd none

-- nor is there without a part that has no fault of its own
pub no_input_part : {X : Type 0} (Has : X → Type 0) (rows : List Row) (sizes : YardSizes) (bays : List YardBay) (u : Usage) → FindsSizes rows sizes → FindsBays rows bays
    → ((s : InputChosen) → HasInput rows s → (x : X) × Has x) → Lacks Has NoFault u → Lacks (HasInput rows) (IsInputFault rows) u
no_input_part Has rows sizes bays u has named part_in = lacks_more Has (HasInput rows) NoFault (IsInputFault rows) u part_in
    (λ f none. absurd none) (λ f first. absurd (found_faultless rows sizes bays has named f first))

-- a text is no byte between fields where there is none in it
pub no_separator_in : (rows : List Row) (text : Text) (u : Usage) → HasText (codes "separator") rows text → separator_in text ≡ None → IsWordsOrMemory u
    → Lacks (HasSeparator rows) NoFault u
no_separator_in rows text u has none words = lacks (HasSeparator rows) NoFault u words without (λ f at. at)
  where
    without : (n : ℕ) → HasSeparator rows n → ⊥
    without n (other, found, is) =
        let some : Some text ≡ Some other = sym has ∙ found in
        let same : text ≡ other = cc in
        let both : None ≡ Some n = sym none ∙ ap separator_in same ∙ is in
        cc

-- nor where there is no text
pub no_separator_text : (rows : List Row) (u : Usage) → Lacks (HasText (codes "separator") rows) NoFault u → Lacks (HasSeparator rows) NoFault u
no_separator_text rows u = lacks_more (HasText (codes "separator") rows) (HasSeparator rows) NoFault NoFault u (λ n has. (has.0, has.1)) (λ f none. none) (λ f none. absurd none)

-- without heights of rows there is no input
pub no_size : (rows : List Row) (u : Usage) → Lacks (FindsSizes rows) (IsInputFault rows) u → Lacks (HasInput rows) (IsInputFault rows) u
no_size rows u = lacks_more (FindsSizes rows) (HasInput rows) (IsInputFault rows) (IsInputFault rows) u (λ s has. (s.sizes, has.0)) (λ f first. first) (λ f first. inl first)

pub no_input_fault : (rows : List Row) (s : InputChosen) → HasInput rows s → (f : SettingFault) → IsInputFault rows f → ⊥
no_input_fault rows s has = found_faultless rows s.sizes s.bays has.0 has.1

-- ---- commands by their names

-- words of other commands begin with another letter
pub other_name : (a b : ℕ) (m n : Text) → a ≢ b → a ∷ m ≡ b ∷ n → ⊥
other_name a b m n other same = other (ap (λ (l : Text). slice_index l 0) same)

-- or with the same one, and then with another
pub other_second : (first a b : ℕ) (m n : Text) → a ≢ b → first ∷ a ∷ m ≡ first ∷ b ∷ n → ⊥
other_second first a b m n other same = other (ap (λ (l : Text). slice_index l 1) same)

-- what audit asks for has an input, its size once, and a byte between fields
audit_asks : (rows : List Row) (j : Job) → Asks (codes "audit") rows j
    → ¬ IsSizedTwice rows × ((s : InputChosen) × HasInput rows s) × ((n : ℕ) × HasSeparator rows n)
audit_asks rows (job.OneFile file command.Replay stop) asks = absurd (other_name 97 114 _ _ (omega arith) asks.0)
audit_asks rows (job.OneFile file command.Rewrite stop) asks = absurd (other_name 97 114 _ _ (omega arith) asks.0)
audit_asks rows (job.OneFile file (command.Bound chains json) stop) asks = absurd (other_name 97 98 _ _ (omega arith) asks.0.0)
audit_asks rows (job.OneFile file (command.Check any_size workers json) stop) asks = absurd (other_name 97 99 _ _ (omega arith) asks.0.0)
audit_asks rows (job.OneFile file (command.Prove search) stop) asks = absurd (other_name 97 112 _ _ (omega arith) asks.0.0)
audit_asks rows (job.Absent names settings) asks = absurd (other_second 97 117 98 _ _ (omega arith) asks.0)
audit_asks rows (job.Audit names settings) asks = (asks.1, (settings, asks.3), (names.separator, asks.2.6))
audit_asks rows (job.Follow names settings) asks = absurd (other_name 97 102 _ _ (omega arith) asks.0)
audit_asks rows (job.Compare names settings) asks = absurd (other_name 97 102 _ _ (omega arith) asks.0)
audit_asks rows (job.Solve names settings quiet progress) asks = absurd (other_name 97 115 _ _ (omega arith) asks.0)

audit_fault : (rows : List Row) (f : SettingFault) → IsFault (codes "audit") rows f → ¬ IsSizedTwice rows × IsInputFault rows f
audit_fault rows f (inl (is, first)) = absurd (other_name 97 112 _ _ (omega arith) is)
audit_fault rows f (inr (inl (is, first))) = absurd (other_name 97 115 _ _ (omega arith) is)
audit_fault rows f (inr (inr (inl (is, first)))) = first
audit_fault rows f (inr (inr (inr (inl (is, first))))) = absurd (other_name 97 102 _ _ (omega arith) is)
audit_fault rows f (inr (inr (inr (inr (inl (is, first)))))) = absurd (other_second 97 117 98 _ _ (omega arith) is)
audit_fault rows f (inr (inr (inr (inr (inr (is, first)))))) = absurd (other_name 97 99 _ _ (omega arith) is)

-- without an input audit asks for nothing
pub no_audit : (rows : List Row) (u : Usage) → ¬ IsSizedTwice rows → Lacks (HasInput rows) (IsInputFault rows) u
    → Lacks (Asks (codes "audit") rows) (IsFault (codes "audit") rows) u
no_audit rows u once = lacks_more (HasInput rows) (Asks (codes "audit") rows) (IsInputFault rows) (IsFault (codes "audit") rows) u
    (λ j asks. (audit_asks rows j asks).1) (λ f first. inr (inr (inl (refl, (once, first))))) (λ f first. inl (audit_fault rows f first).1)

-- so with one, and without a byte between fields
pub no_audit_separator : (rows : List Row) (s : InputChosen) (u : Usage) → HasInput rows s → Lacks (HasSeparator rows) NoFault u
    → Lacks (Asks (codes "audit") rows) (IsFault (codes "audit") rows) u
no_audit_separator rows s u has = lacks_more (HasSeparator rows) (Asks (codes "audit") rows) NoFault (IsFault (codes "audit") rows) u
    (λ j asks. (audit_asks rows j asks).2) (λ f none. absurd none) (λ f first. absurd (no_input_fault rows s has f (audit_fault rows f first).1))

-- nor does it where its size is given twice
pub audit_sized_twice : (rows : List Row) (u : Usage) → IsSizedTwice rows → IsWordsOrMemory u
    → Lacks (Asks (codes "audit") rows) (IsFault (codes "audit") rows) u
audit_sized_twice rows u twice words = lacks (Asks (codes "audit") rows) (IsFault (codes "audit") rows) u words
    (λ j asks. (audit_asks rows j asks).0 twice) (λ f first. (audit_fault rows f first).0 twice)
