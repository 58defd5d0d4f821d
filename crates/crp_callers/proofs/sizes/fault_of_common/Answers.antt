use Rattle.std.proofs.Common.{◌≡◌, ◌∙◌, Some, None, sym, ap, subst, refl, inl, inr, ⊎_elim}
use Rattle.csv.proofs.OnLiterals.{csv_on_literals}
use Rattle.crp_sizes.specs.Sizes.{YardSizes, one_size}
use Rattle.crp_yard.specs.declared.fault.YardFault.TheVariants.{Outside}
use Rattle.crp_yard.specs.Records.{entry_of}
use Rattle.crp_yard.specs.Faults.{fault_of, fault_behind, fault_at, first_fault, fault_of_text}
use Rattle.crp_callers.specs.TwoSizes.{list_text, two_sizes}
use Rattle.crp_callers.proofs.sizes.fault_of_common.Goals as goal

outside : fault_of_text (one_size two_sizes.common) list_text ≡ Some (Outside 3)
unfolding csv_on_literals entry_of fault_of fault_behind fault_at first_fault
outside = refl

pub returns-in-Ok-clause-some : goal.returns-in-Ok-clause-some
returns-in-Ok-clause-some c =
    let at : c.of_heights-common.result ≡ one_size two_sizes.common = c.of_heights-common.ensures ∙ ap one_size (c.common.ensures.value ∙ ap (λ (s : YardSizes). s.common) c.requires) in
    let e : None ≡ Some (Outside 3) = sym (subst (λ (s : YardSizes). fault_of_text s list_text ≡ None) at c.in-Ok.ensures.accepted.faultless) ∙ outside in cc

pub returns-clause-fault : goal.returns-clause-fault
returns-clause-fault c =
    let at : c.of_heights-common.result ≡ one_size two_sizes.common = c.of_heights-common.ensures ∙ ap one_size (c.common.ensures.value ∙ ap (λ (s : YardSizes). s.common) c.requires) in
    ⊎_elim inl (λ first. let e : Some c.in-Err.fault ≡ Some (Outside 3) = sym (subst (λ (s : YardSizes). fault_of_text s list_text ≡ Some c.in-Err.fault) at first) ∙ outside in inr (cc)) c.in-Err.ensures.refused
