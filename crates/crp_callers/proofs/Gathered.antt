-- What two answers to the same parts in two orders have in common.
use Rattle.std.proofs.Common.{◌≡◌, List, Result, Ok, Err, ◌⊎◌}
use Rattle.std.specs.Prelude.{IfOk, IfErr}
use Rattle.std.specs.Result.{OnOk}
use Rattle.std.specs.List.Sorted.{IsPermutation}
use Rattle.std.proofs.lemmas.List.Sorted.{IsPermutation-sym, IsPermutation-trans}
use Rattle.crp_plan.specs.Bay.{Problem}
use Rattle.crp_tree.specs.Parts.{ProblemPart, Certificate, IsCertificate, IsAbout}
use Rattle.crp_gather.specs.declared.fault.GatherFault.{GatherFault}
use Rattle.crp_gather.specs.declared.fault.GatherFault.TheVariants.{Memory}

pub one_certificate : (p : Problem) (parts others : List ProblemPart) (one other : Result Certificate GatherFault)
    → ((cert cert' : Certificate) → IsPermutation cert.parts cert'.parts → IsCertificate cert → IsCertificate cert' → cert ≡ cert')
    → IsPermutation parts others → IfOk one (λ cert. IsPermutation parts cert.parts) → IfOk one (IsAbout p) → IfOk other (λ cert. IsPermutation others cert.parts) → IfOk other (IsAbout p)
    → IfOk one (λ cert. IfOk other (λ cert'. cert ≡ cert'))
one_certificate p parts others (Ok a) (Ok b) law moved a_of about_a b_of about_b =
    law a b (IsPermutation-trans _ _ _ (IsPermutation-sym _ _ a_of) (IsPermutation-trans _ _ _ moved b_of)) about_a.certificate about_b.certificate
one_certificate p parts others (Ok a) (Err g) law moved a_of about_a b_of about_b = tt
one_certificate p parts others (Err f) other law moved a_of about_a b_of about_b = tt

pub one_fault : (one other : Result Certificate GatherFault) (Is Is' : GatherFault → Type 0)
    → ((f g : GatherFault) → Is f → Is' g → (f ≡ Memory) ⊎ (g ≡ Memory) ⊎ (f ≡ g))
    → IfErr one Is → IfErr other Is' → IfErr one (λ f. IfErr other (λ g. (f ≡ Memory) ⊎ (g ≡ Memory) ⊎ (f ≡ g)))
one_fault (Ok a) other Is Is' law f_is g_is = tt
one_fault (Err f) (Ok b) Is Is' law f_is g_is = tt
one_fault (Err f) (Err g) Is Is' law f_is g_is = law f g f_is g_is

pub no_fault : (one other : Result Certificate GatherFault) (Whole : Type 0) (Is : GatherFault → Type 0) → (Whole → (g : GatherFault) → Is g → g ≡ Memory) → OnOk one Whole → IfErr other Is
    → IfOk one (λ _. IfErr other (λ g. g ≡ Memory))
no_fault (Ok a) (Ok b) Whole Is law whole g_is = tt
no_fault (Ok a) (Err g) Whole Is law whole g_is = law whole g g_is
no_fault (Err f) other Whole Is law whole g_is = tt

pub memory_alone : (one : Result Certificate GatherFault) (Is : GatherFault → Type 0) → ((g : GatherFault) → Is g → g ≡ Memory) → IfErr one Is → IfErr one (λ g. g ≡ Memory)
memory_alone (Ok a) Is law g_is = tt
memory_alone (Err g) Is law g_is = law g g_is
