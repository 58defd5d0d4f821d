use Rattle.std.proofs.Common.{◌∷◌, [], rules, ap, arith}
use Rattle.crp_pool.specs.Weigh.{weigh}
use Rattle.crp_pool.proofs.Hands.{weigh-append}
use Rattle.crp_solve.proofs.workers.wider.put_all.Goals as goal

pub loop-preserved : goal.loop-preserved
loop-preserved g c =
    let before = c.loop.invariant in let name = c.in-Some-next.name in
    record {
      can = tt;
      ends = tt;
      same = search rules;
      takes = search rules;
      puts = search rules;
      moved = λ h. (
          let a = before.moved h in let b = c.in-Some-next.ensures.taken h in let e = ap (weigh h) c.in-Ok.ensures.put in
          omega (arith, weigh-append h c.loop.place.puts (name ∷ []), weigh-append h c.loop.rest.takes (name ∷ [])));
    }
