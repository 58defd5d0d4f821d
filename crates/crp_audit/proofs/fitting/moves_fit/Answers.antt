use Rattle.std.proofs.Common.{◌∙◌, ⊎_elim, List, map, filter, sym, subst}
use Rattle.crp_yard.specs.Inventory.{StackedBay}
use Rattle.crp_order.specs.BayProblems.{is_called}
use Rattle.crp_said.specs.declared.said.SaidBay.{SaidBay}
use Rattle.crp_said.specs.Views.{bay_as, report_as}
use Rattle.crp_audit.specs.Headline.{Handed, handed}
use Rattle.crp_audit.specs.Fitting.{FitsEach}
use Rattle.crp_audit.proofs.Fits.{fits_as_read, no_report}
use Rattle.crp_audit.proofs.Results.{ok_by}
use Rattle.crp_audit.proofs.fitting.moves_fit.Goals as goal

pub returns-in-Err-Line : goal.returns-in-Err-Line
returns-in-Err-Line c = λ orders certificates.
    ⊎_elim (λ memory. absurd (cc)) (λ wrong. no_report (handed c.args.yard.now orders c.args.sequence.now c.args.report.now certificates) wrong.0 wrong.2) c.in-Err-Line.ensures.refused

pub returns : goal.returns
returns c = ok_by c.fits_each.result _ _ c.fits_each.ensures (λ fit is orders certificates.
    let h : Handed = handed c.args.yard.now orders c.args.sequence.now c.args.report.now certificates in
    let bays : List StackedBay = filter (is_called h.sequence) h.yard.bays in
    let same = is h bays (c.deref.ensures.value ∙ c.in_ok-stated.ensures.exact) in
    let one = fits_as_read h (report_as c.in-Ok.said) c.in-Ok.ensures.found in
    let P : List SaidBay → Type 0 = λ l. FitsEach h bays (map bay_as l) in
    (λ t. one.0 (subst P c.deref-2.ensures.value (same.0 t)), λ fits. same.1 (subst P (sym c.deref-2.ensures.value) (one.1 fits))))
