use Rattle.std.proofs.Common.{⊎_elim}
use Rattle.crp_callers.specs.TwoSizes.{sizes_text, two_sizes}
use Rattle.crp_callers.proofs.Outcomes.{ok_by, err_by}
use Rattle.crp_callers.proofs.sizes.read_two_sizes.Goals as goal

pub returns-clause-accepted : goal.returns-clause-accepted
returns-clause-accepted c = ok_by c.read_sizes.result _ _ c.read_sizes.ensures.accepted (λ sizes is.
    let listed = c.one_list.ensures.sizes sizes_text sizes.listed two_sizes.listed is.list c.worked_cases.ensures.listed in
    λ i. record { common = is.others i; listed = listed i })

pub returns-clause-refused : goal.returns-clause-refused
returns-clause-refused c = err_by c.read_sizes.result _ _ c.read_sizes.ensures.refused (λ fault is.
    ⊎_elim (λ memory. memory) (λ first. absurd (c.one_outcome.ensures.either sizes_text two_sizes.listed fault c.worked_cases.ensures.listed first)) is)
