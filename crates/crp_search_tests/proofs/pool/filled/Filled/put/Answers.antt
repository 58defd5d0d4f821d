use Rattle.crp_pool.proofs.Every.{every_set}
use Rattle.crp_search_tests.proofs.pool.filled.Filled.put.Goals as goal

pub invariant_of-self : goal.invariant_of-self
invariant_of-self c = record { every = every_set _ _ _ _ _ c.index_mut.ensures.value c.put.ensures.same.0 c.args.self.now.every }
