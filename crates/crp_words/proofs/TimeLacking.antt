-- The limits of time that are found, and why there are none.
use Rattle.std.proofs.Common.{◌≡◌, ◌∙◌, ◌⊎◌, ℕ, List, Option, Some, None, is_some, option_map, refl, sym, subst, inl, inr, codes}
use Rattle.clap.specs.Words.{Row, Text, rows_of, first_value}
use Rattle.clap.specs.declared.parser.matches.Found.{Found}
use Rattle.clap.proofs.WalkLemmas.{first_value-rows}
use Rattle.crp_solve.specs.declared.settings.TimeLimits.{TimeLimits}
use Rattle.crp_words.specs.Seconds.{IsSecondsText}
use Rattle.crp_words.specs.Words.{AreSecondsBeyond, HasSeconds, HasTime, IsJust, IsTimeFault, Lacks, MayHaveSeconds}
use Rattle.crp_words.specs.declared.usage.SettingFault.{SettingFault}
use Rattle.crp_words.specs.declared.usage.SettingFault.TheVariants as setting
use Rattle.crp_words.specs.declared.usage.Usage.{Usage}
use Rattle.crp_words.proofs.Lacking.{lacks_more}

-- something is left of something
pub still_some : {A B : Type 0} (f : A → B) (o : Option A) → is_some (option_map f o) ≡ is_some o
still_some f None = refl
still_some f (Some a) = refl

-- the milliseconds of a text are those that were found
pub found_seconds : (f : Found) (id text : Text) (millis : ℕ) → first_value f id ≡ Some text → IsSecondsText text millis → HasSeconds id (rows_of f) millis
found_seconds f id text millis has is = (text, sym (first_value-rows f id) ∙ has, is)

-- and where it has none, none are found
pub no_seconds_found : (f : Found) (id text : Text) → first_value f id ≡ Some text → ((millis : ℕ) → IsSecondsText text millis → ⊥)
    → (limit : Option ℕ) → MayHaveSeconds id (rows_of f) limit → ⊥
no_seconds_found f id text has none None absent =
    let e : Some text ≡ None = sym has ∙ first_value-rows f id ∙ absent in cc
no_seconds_found f id text has none (Some millis) (other, found, is) =
    let e : Some text ≡ Some other = sym has ∙ first_value-rows f id ∙ found in
    let same : other ≡ text = cc in
    none millis (subst (λ (t : Text). IsSecondsText t millis) same is)

pub seconds_beyond : (f : Found) (id text : Text) → first_value f id ≡ Some text → ((millis : ℕ) → IsSecondsText text millis → ⊥) → AreSecondsBeyond id (rows_of f)
seconds_beyond f id text has none = (text, sym (first_value-rows f id) ∙ has, none)

-- a limit of time that is found is no fault
not_both : (id : Text) (rows : List Row) (limit : Option ℕ) → MayHaveSeconds id rows limit → AreSecondsBeyond id rows → ⊥
not_both id rows None absent (text, found, none) = let e : None ≡ Some text = sym absent ∙ found in cc
not_both id rows (Some millis) (text, has, is) (other, found, none) =
    let e : Some text ≡ Some other = sym has ∙ found in
    let same : text ≡ other = cc in
    none millis (subst (λ (t : Text). IsSecondsText t millis) same is)

-- without a limit for each bay there are no limits of time
pub no_bay_limit : (rows : List Row) (u : Usage) → Lacks (MayHaveSeconds (codes "seconds") rows) (IsJust setting.Seconds (AreSecondsBeyond (codes "seconds") rows)) u
    → Lacks (HasTime rows) (IsTimeFault rows) u
no_bay_limit rows u = lacks_more (MayHaveSeconds (codes "seconds") rows) (HasTime rows) (IsJust setting.Seconds (AreSecondsBeyond (codes "seconds") rows)) (IsTimeFault rows) u
    (λ time has. (time.bay, has.0)) (λ f just. subst (IsTimeFault rows) (sym just.0) just.1) down
  where
    down : (f : SettingFault) → IsTimeFault rows f → IsJust setting.Seconds (AreSecondsBeyond (codes "seconds") rows) f ⊎ ((limit : Option ℕ) × MayHaveSeconds (codes "seconds") rows limit)
    down setting.Workers none = absurd none
    down setting.Budget none = absurd none
    down setting.Split none = absurd none
    down setting.Beam none = absurd none
    down setting.Thin none = absurd none
    down setting.Rows none = absurd none
    down setting.Tiers none = absurd none
    down setting.Heights none = absurd none
    down setting.Bay none = absurd none
    down setting.Seconds first = inl (refl, first)
    down setting.TotalSeconds first = inr first.0

-- nor are there without one for all bays together
pub no_total_limit : (rows : List Row) (bay : Option ℕ) (u : Usage) → MayHaveSeconds (codes "seconds") rows bay
    → Lacks (MayHaveSeconds (codes "total-seconds") rows) (IsJust setting.TotalSeconds (AreSecondsBeyond (codes "total-seconds") rows)) u
    → Lacks (HasTime rows) (IsTimeFault rows) u
no_total_limit rows bay u has_bay = lacks_more (MayHaveSeconds (codes "total-seconds") rows) (HasTime rows)
    (IsJust setting.TotalSeconds (AreSecondsBeyond (codes "total-seconds") rows)) (IsTimeFault rows) u
    (λ time has. (time.all, has.1)) (λ f just. subst (IsTimeFault rows) (sym just.0) ((bay, has_bay), just.1)) down
  where
    down : (f : SettingFault) → IsTimeFault rows f
        → IsJust setting.TotalSeconds (AreSecondsBeyond (codes "total-seconds") rows) f ⊎ ((limit : Option ℕ) × MayHaveSeconds (codes "total-seconds") rows limit)
    down setting.Workers none = absurd none
    down setting.Budget none = absurd none
    down setting.Split none = absurd none
    down setting.Beam none = absurd none
    down setting.Thin none = absurd none
    down setting.Rows none = absurd none
    down setting.Tiers none = absurd none
    down setting.Heights none = absurd none
    down setting.Bay none = absurd none
    down setting.Seconds first = absurd (not_both (codes "seconds") rows bay has_bay first)
    down setting.TotalSeconds first = inl (refl, first.1)

-- limits of time that are found have no fault
pub no_time_fault : (rows : List Row) (time : TimeLimits) → HasTime rows time → (f : SettingFault) → IsTimeFault rows f → ⊥
no_time_fault rows time has setting.Workers none = none
no_time_fault rows time has setting.Budget none = none
no_time_fault rows time has setting.Split none = none
no_time_fault rows time has setting.Beam none = none
no_time_fault rows time has setting.Thin none = none
no_time_fault rows time has setting.Rows none = none
no_time_fault rows time has setting.Tiers none = none
no_time_fault rows time has setting.Heights none = none
no_time_fault rows time has setting.Bay none = none
no_time_fault rows time has setting.Seconds first = not_both (codes "seconds") rows time.bay has.0 first
no_time_fault rows time has setting.TotalSeconds first = not_both (codes "total-seconds") rows time.all has.1 first.1
