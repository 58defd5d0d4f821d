use Rattle.crp_thinned.proofs.Thinning.{shows_path, shows_run, beside}
use Rattle.crp_thinned.proofs.laws.thinned_trees_show.Goals as goal

pub returns : goal.returns
returns c = record {
  path = shows_path;
  run = λ s tree cost floor moves sound none fits high k. shows_run s k.0 tree cost floor moves sound none fits high k.1 k.2;
  thinned = λ s t tree cost floor moves sound h fits high k. beside floor s k.0 moves cost t tree sound h k.1 k.2 fits high;
}
