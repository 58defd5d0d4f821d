use Rattle.std.proofs.Common.{Some}
use Rattle.crp_tree.specs.Parts.{claimed}
use Rattle.crp_cert.specs.Writing.{CanBeSpelled, first_script_for}
use Rattle.crp_callers.proofs.certificates.first_claims_are_read.Goals as goal

pub returns : goal.returns
returns c = λ bay p cert plan named about planned.
    let claim = claimed p cert (Some plan.path) in
    let law = c.written_is_read.ensures in
    let spelled : CanBeSpelled claim = record { accepted = c.claims_are_accepted.ensures p cert (Some plan.path) about planned; rising = law.rising p cert (Some plan.path) about.certificate } in
    (first_script_for bay claim, law.first_read bay claim named spelled, law.first_again bay claim)
