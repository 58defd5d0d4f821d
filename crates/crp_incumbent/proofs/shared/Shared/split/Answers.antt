use Rattle.std.proofs.Common.{rules}
use Rattle.crp_incumbent.proofs.Keeping.{splits}
use Rattle.crp_incumbent.proofs.shared.Shared.split.Goals as goal

pub split_seat-token-requires : goal.split_seat-token-requires
split_seat-token-requires c = (search rules, search rules, splits _ _ _ (search rules) (search rules))
