use Rattle.std.proofs.Common.{sym, subst}
use Rattle.crp_bay.specs.Back.{PlaceAndTrail}
use Rattle.crp_thinning.specs.EachRow.{AreGood}
use Rattle.crp_thinning.proofs.thinned.Thinned.best_fit.Goals as goal

pub best_fit-requires : goal.best_fit-requires
best_fit-requires c = subst (λ (v : PlaceAndTrail). AreGood v.place c.args.rows.now) (sym c.self.view_is) c.requires
