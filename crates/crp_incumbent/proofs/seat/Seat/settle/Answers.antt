use Rattle.std.proofs.Common.{rules}
use Rattle.crp_incumbent.proofs.Keeping.{settles}
use Rattle.crp_incumbent.proofs.seat.Seat.settle.Goals as goal

pub fetch_sub-requires : goal.fetch_sub-requires
fetch_sub-requires c = (search rules, search rules, settles _ _ _ c.self.inside.used _ _ (search rules) (search rules) (search rules) (search rules))
