use Rattle.crp_movins.proofs.Meaning.{order-means, order-given}
use Rattle.crp_movins.proofs.laws.orders_by_places.Goals as goal

pub returns : goal.returns
returns c = record { means = order-means; given = order-given }
