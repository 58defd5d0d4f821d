use Rattle.crp_tree.proofs.Nodes.{given_goes_on, given_short, given_at, given_rise, given_apart}
use Rattle.crp_tree.proofs.laws.names_given.Goals as goal

pub returns : goal.returns
returns c = record {
  goes_on = λ name s tree g shape. given_goes_on name s tree g shape.not_given;
  short = λ name s tree g shape. given_short name s tree g shape.in_place;
  path = given_at;
  rising = given_rise;
  apart = given_apart;
}
