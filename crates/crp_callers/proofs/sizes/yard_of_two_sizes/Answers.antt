use Rattle.std.proofs.Common.{◌≡◌, ◌∙◌, Some, None, refl, sym, ap, subst, ⊎_elim}
use Rattle.csv.proofs.OnLiterals.{csv_on_literals}
use Rattle.crp_sizes.specs.Sizes.{YardSizes}
use Rattle.crp_yard.specs.Records.{records_of, entry_of, entries_of}
use Rattle.crp_yard.specs.Inventory.{inventory_of}
use Rattle.crp_yard.specs.Faults.{fault_of, fault_behind, fault_at, first_fault, fault_of_text}
use Rattle.crp_callers.specs.TwoSizes.{list_text, two_sizes, sized_yard}
use Rattle.crp_callers.proofs.Outcomes.{ok_by, err_by}
use Rattle.crp_callers.proofs.sizes.yard_of_two_sizes.Goals as goal

stands : inventory_of two_sizes (entries_of (records_of list_text)) ≡ sized_yard
unfolding csv_on_literals entry_of
stands = refl

faultless : fault_of_text two_sizes list_text ≡ None
unfolding csv_on_literals entry_of fault_of fault_behind fault_at first_fault
faultless = refl

pub returns-clause-accepted : goal.returns-clause-accepted
returns-clause-accepted c = ok_by c.yard_of_sizes.result _ _ c.yard_of_sizes.ensures.accepted (λ yard is.
    is.stands ∙ ap (λ (sizes : YardSizes). inventory_of sizes (entries_of (records_of list_text))) c.requires ∙ stands)

pub returns-clause-refused : goal.returns-clause-refused
returns-clause-refused c = err_by c.yard_of_sizes.result _ _ c.yard_of_sizes.ensures.refused (λ fault is.
    ⊎_elim (λ memory. memory) (λ first. let e : None ≡ Some fault = sym faultless ∙ subst (λ (sizes : YardSizes). fault_of_text sizes list_text ≡ Some fault) c.requires first in cc) is)
