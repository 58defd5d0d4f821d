-- Inputs that are refused.
use Rattle.std.proofs.Common.{◌≡◌, ◌<◌, ◌≤◌, ◌+◌, ◌⊎◌, ℕ, false, List, length, Option, Some, None, IfSome, replicate, refl, ⊎_elim, arith}
use Rattle.std.proofs.lemmas.List.{length-replicate}
use Rattle.std.proofs.lemmas.Bool.{lt-leb}
use Rattle.std.specs.Prelude.{nat_le}
use Rattle.crp_sizes.specs.Sizes.{YardSizes}
use Rattle.crp_yard.specs.declared.fault.YardFault.{YardFault}
use Rattle.crp_yard.specs.declared.fault.YardFault.TheVariants as yard_fault
use Rattle.crp_yard.specs.Faults.{fault_of_text, max_bytes}
use Rattle.crp_yard.specs.Reading.{IsTextOf}
use Rattle.crp_yard.proofs.FaultKinds.{of_record}
use Rattle.crp_report.specs.BayTexts.{fault_of_yard, IsNoYard}

-- where a source had more bytes than this, so had the text that it gave
pub longer : (n : ℕ) (given : Option (List ℕ)) → IfSome given (λ xs. n < length xs) → (text : List ℕ) × IsTextOf given text × (n < length text)
longer n None h = (replicate (n + 1) 0, tt, rw (length-replicate {A = ℕ} (n + 1) 0) (omega arith))
longer n (Some xs) h = (xs, refl, h)

-- so many bytes are too many for a yard list
pub list_too_large : (sizes : YardSizes) (given : Option (List ℕ)) → IfSome given (λ xs. 8388608 < length xs)
    → (text : List ℕ) × IsTextOf given text × (fault_of_text sizes text ≡ Some yard_fault.TooLarge)
list_too_large sizes given h =
    let (text, is, long) = longer 8388608 given h in
    let beyond : nat_le (length text) max_bytes ≡ false = lt-leb (length text) max_bytes long in
    (text, is, rw beyond refl)

-- what is stated of the fault of a yard list that is short enough
pub yard_refused : (sizes : YardSizes) (given : Option (List ℕ)) (before after : ℕ) (text : List ℕ) (f : YardFault) → length text ≤ max_bytes → IsTextOf given text
    → (f ≡ yard_fault.Memory) ⊎ (fault_of_text sizes text ≡ Some f) → IsNoYard sizes given before after (fault_of_yard f)
yard_refused sizes given before after text yard_fault.Memory short is h = tt
yard_refused sizes given before after text yard_fault.Read short is h = absurd (⊎_elim (λ e. cc e) (λ e. of_record sizes text yard_fault.Read short e) h)
yard_refused sizes given before after text yard_fault.TooLarge short is h = absurd (⊎_elim (λ e. cc e) (λ e. of_record sizes text yard_fault.TooLarge short e) h)
yard_refused sizes given before after text (yard_fault.Header n) short is h = ((λ e. cc e), (λ e. cc e), (text, is, ⊎_elim (λ e. cc e) (λ e. e) h))
yard_refused sizes given before after text (yard_fault.Fields n) short is h = ((λ e. cc e), (λ e. cc e), (text, is, ⊎_elim (λ e. cc e) (λ e. e) h))
yard_refused sizes given before after text (yard_fault.Digits n) short is h = ((λ e. cc e), (λ e. cc e), (text, is, ⊎_elim (λ e. cc e) (λ e. e) h))
yard_refused sizes given before after text (yard_fault.Outside n) short is h = ((λ e. cc e), (λ e. cc e), (text, is, ⊎_elim (λ e. cc e) (λ e. e) h))
yard_refused sizes given before after text (yard_fault.PlaceTaken n) short is h = ((λ e. cc e), (λ e. cc e), (text, is, ⊎_elim (λ e. cc e) (λ e. e) h))
yard_refused sizes given before after text (yard_fault.Floating n) short is h = ((λ e. cc e), (λ e. cc e), (text, is, ⊎_elim (λ e. cc e) (λ e. e) h))
yard_refused sizes given before after text (yard_fault.StandsAlready n) short is h = ((λ e. cc e), (λ e. cc e), (text, is, ⊎_elim (λ e. cc e) (λ e. e) h))
yard_refused sizes given before after text (yard_fault.TooMany n) short is h = ((λ e. cc e), (λ e. cc e), (text, is, ⊎_elim (λ e. cc e) (λ e. e) h))
