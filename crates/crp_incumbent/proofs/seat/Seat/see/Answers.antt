use Rattle.std.proofs.Common.{rules}
use Rattle.crp_incumbent.proofs.Keeping.{sees}
use Rattle.crp_incumbent.proofs.seat.Seat.see.Goals as goal

pub load-requires : goal.load-requires
load-requires c = (search rules, search rules, sees _ _ _ _ (search rules) (search rules))
