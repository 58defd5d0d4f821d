use Rattle.crp_thinned.proofs.Thinning.{reaches, shown_bounds}
use Rattle.crp_thinned.proofs.laws.shown_means.Goals as goal

pub returns : goal.returns
returns c = record { cuts = λ s tree cost floor fits. reaches floor cost s tree fits; bounds = shown_bounds }
