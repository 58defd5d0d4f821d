use Rattle.std.proofs.Common.{sym}
use Rattle.std.specs.Prelude.{Result, Ok, Err, OnOk}
use Rattle.crp_checker.specs.Pending.{spot_at}
use Rattle.crp_checker.proofs.walking.meet.Goals as goal

-- what holds holds where a call succeeds
on_ok : {A E : Type 0} (r : Result A E) (P : Type 0) → P → OnOk r P
on_ok (Ok a) P p = p
on_ok (Err e) P p = tt

pub returns-clause-given : goal.returns-clause-given
returns-clause-given c = on_ok c.judge.result _ (c.in_ok-give.ensures (spot_at c.args.row c.args.path.now.items c.args.place.now.place) (sym c.deref.ensures.value))
