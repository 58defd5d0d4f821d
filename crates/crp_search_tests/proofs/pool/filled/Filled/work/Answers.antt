use Rattle.std.proofs.Common.{arith}
use Rattle.crp_pool.proofs.Every.{every_written}
use Rattle.crp_search_tests.proofs.pool.filled.Filled.work.Goals as goal

pub invariant_of-self : goal.invariant_of-self
invariant_of-self g c = record { every = every_written _ _ _ _ _ _ c.as_mut_slice.ensures.value (omega (arith, c.work_all.auto.seats, c.as_mut_slice.ensures.len)) c.work_all.auto.seats c.work_all.ensures c.args.self.now.every }
