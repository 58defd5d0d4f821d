-- What is written of a certificate about a problem is accepted.
use Rattle.std.proofs.Common.{length, Option, Some, IfSome, refl}
use Rattle.crp_plan.specs.BayNames.{YardBay, IsYardBay}
use Rattle.crp_plan.specs.Bay.{Problem}
use Rattle.crp_plan.specs.Plans.{ProblemPath}
use Rattle.crp_plan.specs.Faults.{IsPlanPath}
use Rattle.crp_tree.specs.Claims.{Claimed, IsAccepted, path_in}
use Rattle.crp_tree.specs.Parts.{Certificate, IsAbout, claimed}
use Rattle.crp_tree.specs.First.{IsFirstAccepted, MeetNeeds}
use Rattle.crp_tree.proofs.Certified.{certified}
use Rattle.crp_tree.proofs.Firsts.{first_certified}
use Rattle.crp_cert.specs.Writing.{script_for, certificate_text, first_script_for, first_certificate_text, CanBeSpelled}
use Rattle.crp_cert.proofs.Written.{spelled_is_script, first_is_script, claimed_rise}
use Rattle.crp_checker.specs.AcceptedTexts.{IsAcceptedText}

pub accepted_written : (bay : YardBay) (p : Problem) (cert : Certificate) (plan : Option ProblemPath) → IsYardBay bay → IsAbout p cert → IfSome (path_in plan) (IsPlanPath p)
    → IsAcceptedText (Some p) (certificate_text bay p cert plan) (script_for bay (claimed p cert (path_in plan)))
accepted_written bay p cert plan name about is =
    let claim : Claimed = claimed p cert (path_in plan) in
    let ok : IsAccepted claim = certified p cert (path_in plan) about is in
    let spelled : CanBeSpelled claim = record { accepted = ok; rising = claimed_rise p cert (path_in plan) about.certificate } in
    record { is_text = (spelled_is_script bay claim name spelled, refl); as_wanted = refl; accepted = ok }

-- and with the claim that the plan is the first best one, where each cut meets its need
pub first_written : (bay : YardBay) (p : Problem) (cert : Certificate) (plan : ProblemPath) → IsYardBay bay → IsAbout p cert → IsPlanPath p plan.path → MeetNeeds (length plan.path) plan.path cert.parts
    → IsAcceptedText (Some p) (first_certificate_text bay p cert plan) (first_script_for bay (claimed p cert (Some plan.path)))
first_written bay p cert plan name about is needs =
    let claim : Claimed = claimed p cert (Some plan.path) in
    let first : IsFirstAccepted claim plan.path = first_certified p cert plan.path about is needs in
    let spelled : CanBeSpelled claim = record { accepted = first.accepted; rising = claimed_rise p cert (Some plan.path) about.certificate } in
    record { is_text = (first_is_script bay claim name spelled, refl); as_wanted = refl; accepted = (plan.path, first) }
