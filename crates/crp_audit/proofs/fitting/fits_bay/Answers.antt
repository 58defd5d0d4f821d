use Rattle.std.proofs.Common.{◌≡◌, ◌∙◌, ℕ, true, false, Bool, IsTrue, Vec, Global, map, sym, ap, subst}
use Rattle.std.specs.Prelude.{◌↔◌}
use Rattle.crp_said.specs.Said.{count_said}
use Rattle.crp_said.specs.Views.{bay_as}
use Rattle.crp_audit.specs.Fitting.{FitsBay}
use Rattle.crp_audit.proofs.Fits.{bay_fits, looked_as, other_name}
use Rattle.crp_audit.proofs.fitting.fits_bay.Goals as goal

pub returns-then-not-is_named : goal.returns-then-not-is_named
returns-then-not-is_named c = λ h bay e. other_name h bay c.args.stated.now (bay_as c.args.said.now) e
    (λ same. let t : c.is_named.result ≡ true = c.is_named.ensures.1 same in let f : c.is_named.result ≡ false = c.if-not-is_named.true in cc)

pub returns : goal.returns
returns c = λ h bay e.
    let s = bay_as c.args.said.now in
    subst (λ (b : Bool). IsTrue b ↔ FitsBay h bay s) (sym c.is_as_said.ensures)
    (bay_fits h bay c.args.stated.now s c.in_ok-looked.looked e (c.is_named.ensures.0 c.if-not-is_named.false) c.cap-cap.ensures.problem c.requires.named
    (looked_as (map (λ name. name.items) c.deref.result.now) c.args.stated.now.names c.args.stated.now.problem c.count-count.result (count_said s.said) c.deref-2.result.now s.lines c.in_ok-looked.looked
    (ap (map (λ (name : Vec ℕ Global). name.items)) c.deref.ensures.value ∙ c.in_ok-names.ensures ∙ c.list.ensures) c.count-count.ensures c.deref-2.ensures.value c.in_ok-looked.ensures))
