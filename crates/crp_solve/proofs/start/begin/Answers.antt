use Rattle.std.proofs.Common.{rules, arith}
use Rattle.crp_solve.proofs.Joining.{every_place, some_deque}
use Rattle.crp_solve.proofs.start.begin.Goals as goal

pub returns : goal.returns
returns g c =
    let places = c.in-Ok-new.places.items in let pool = c.in-Ok-new.pool in let made = c.in-Ok-new.ensures.seats in
    record {
      start = record {
        opened = search rules;
        left_new = search rules;
        left_share = search rules;
        words = search rules;
        share = search rules;
        places = (every_place c.in-Ok-begun.worker.places places pool c.in-Ok-begun.ensures.places made.1, some_deque pool places (omega (arith, made.0)) made.1);
        none_taken = search rules;
      };
      stops = c.in-Ok-begun.ensures.stops;
    }
