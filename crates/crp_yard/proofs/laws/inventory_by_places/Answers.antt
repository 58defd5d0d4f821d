use Rattle.crp_yard.proofs.InventoryPlaces.{all_places}
use Rattle.crp_yard.proofs.laws.inventory_by_places.Goals as goal

pub returns : goal.returns
returns c = all_places
