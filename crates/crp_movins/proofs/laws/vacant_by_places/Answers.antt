use Rattle.std.proofs.Common.{ℕ}
use Rattle.crp_movins.specs.ByPlaces.{IsVacant}
use Rattle.crp_movins.proofs.Rising.{one_list}
use Rattle.crp_movins.proofs.Listed.{vacant-counted}
use Rattle.crp_movins.proofs.laws.vacant_by_places.Goals as goal

pub returns : goal.returns
returns c = record { counted = vacant-counted; one_list = λ segments loading. one_list ℕ (λ group. group) (IsVacant segments loading) }
