use Rattle.crp_yard.proofs.FloatingPlaces.{first-means, first-given, none-means, none-given}
use Rattle.crp_yard.proofs.laws.floating_by_places.Goals as goal

pub returns : goal.returns
returns c = record {
  first = λ heights records n. (first-means heights records n, first-given heights records n);
  none = λ heights records. (none-means heights records, none-given heights records);
}
