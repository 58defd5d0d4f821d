use Rattle.std.proofs.Common.{arith}
use Rattle.crp_bay.proofs.Reaching.{reached_sound, reached_settled}
use Rattle.crp_thinned.proofs.Thinning.{shown_bounds}
use Rattle.crp_thinning.proofs.laws.closed_means.Goals as goal

pub returns : goal.returns
returns c s need text moves r k m = let le = k.reaches in omega (arith, shown_bounds s k.tree moves (reached_sound s r) (λ row t h. reached_settled s r row t h) k.fits m)
