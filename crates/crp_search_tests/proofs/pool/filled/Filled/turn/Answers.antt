use Rattle.crp_pool.proofs.Every.{every_moved}
use Rattle.crp_search_tests.proofs.pool.filled.Filled.turn.Goals as goal

pub invariant_of-self : goal.invariant_of-self
invariant_of-self c = record { every = every_moved _ _ _ c.reverse.ensures.permutation c.args.self.now.every }
