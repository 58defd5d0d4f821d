use Rattle.crp_yard.proofs.WrittenPlaces.{read_back}
use Rattle.crp_yard.proofs.laws.places_read_back.Goals as goal

pub returns : goal.returns
returns c = λ yard read heights is named. read_back yard is named heights read
