use Rattle.crp_tree.proofs.Shown.{shows, shows_least}
use Rattle.crp_tree.proofs.laws.trees_show.Goals as goal

pub returns : goal.returns
returns c = record { floor = shows; least = shows_least }
