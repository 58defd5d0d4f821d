use Rattle.std.proofs.Common.{rules, arith}
use Rattle.crp_incumbent.proofs.Claiming.{claims_refused}
use Rattle.crp_incumbent.proofs.Keeping.{takes, refuses}
use Rattle.crp_incumbent.proofs.seat.Seat.claim_at_table.Goals as goal

pub load-requires : goal.load-requires
load-requires c = (search rules, search rules, refuses _ _ _ _ (search rules) (search rules) (search rules))

pub compare_exchange-requires : goal.compare_exchange-requires
compare_exchange-requires c = let loan = c.self.invariant.0.loan_is in let batch = c.in-Some.ensures in let covered = batch.covered in
    (search rules, search rules, takes _ _ _ _ _ c.in-Some.more _ (search rules) (search rules) (search rules) (omega arith))

pub returns-then-load-eq0-clause-claimed : goal.returns-then-load-eq0-clause-claimed
returns-then-load-eq0-clause-claimed c = let s = c.self.inside in let e = c.load.ensures in rw (← c.self.view_is) (claims_refused _ _ _ _ s.used e.0 (e.2.none c.if-load-eq0.true))
