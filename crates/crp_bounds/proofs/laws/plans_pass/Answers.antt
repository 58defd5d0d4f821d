use Rattle.crp_bounds.proofs.Floors.{cut_floor}
use Rattle.crp_bounds.proofs.laws.plans_pass.Goals as goal

pub returns : goal.returns
returns c = record {
  blocking = λ p path more s moves is a plan e. (cut_floor p path more s moves is a plan e).1;
  look_ahead = λ p path more s moves is a plan e. (cut_floor p path more s moves is a plan e).0;
}
