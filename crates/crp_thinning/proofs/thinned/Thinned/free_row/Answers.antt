use Rattle.std.proofs.Common.{◌≡◌, ◌≤◌, Contains, sym, ap, ◌∙◌, subst}
use Rattle.crp_plan.specs.Bay.{Position}
use Rattle.crp_bay.specs.Back.{PlaceAndTrail}
use Rattle.crp_thinned.specs.Thinned.{good_rows, free_row}
use Rattle.crp_thinned.proofs.Thinning.{free_is}
use Rattle.crp_thinning.proofs.thinned.Thinned.free_row.Goals as goal

pub returns-clause-good : goal.returns-clause-good
returns-clause-good c some =
    let s : Position = c.args.self.now.place in
    let e : c.free_row.result ≡ free_row s = c.free_row.ensures ∙ ap (λ (v : PlaceAndTrail). free_row v.place) c.self.view_is in
    subst (λ r. Contains (good_rows s) r) (sym e) (free_is s (subst (λ r. 1 ≤ r) e some)).legal
