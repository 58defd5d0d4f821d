use Rattle.crp_picture.proofs.Lying.{are_apart, box_in, label_in}
use Rattle.crp_picture.proofs.laws.places_lie_apart.Goals as goal

pub returns : goal.returns
returns c = record { apart = are_apart; drawn = box_in; label = label_in }
