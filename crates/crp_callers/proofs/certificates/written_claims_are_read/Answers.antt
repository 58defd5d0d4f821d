use Rattle.crp_tree.specs.Claims.{path_in}
use Rattle.crp_tree.specs.Parts.{claimed}
use Rattle.crp_cert.specs.Writing.{CanBeSpelled, script_for}
use Rattle.crp_callers.proofs.certificates.written_claims_are_read.Goals as goal

pub returns : goal.returns
returns c = λ bay p cert plan named about planned.
    let claim = claimed p cert (path_in plan) in
    let law = c.written_is_read.ensures in
    let spelled : CanBeSpelled claim = record { accepted = c.claims_are_accepted.ensures p cert (path_in plan) about planned; rising = law.rising p cert (path_in plan) about.certificate } in
    (script_for bay claim, law.read bay claim named spelled, law.again bay claim)
