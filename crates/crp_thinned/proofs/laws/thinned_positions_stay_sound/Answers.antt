use Rattle.crp_thinned.proofs.Keeping.{thin_real, thin_at, thin_without}
use Rattle.crp_thinned.proofs.Thinning.{thin_free}
use Rattle.crp_thinned.proofs.laws.thinned_positions_stay_sound.Goals as goal

pub returns : goal.returns
returns c = record { real = thin_real; row = thin_at; without = thin_without; free = thin_free }
