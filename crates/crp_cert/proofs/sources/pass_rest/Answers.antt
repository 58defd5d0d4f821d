use Rattle.std.proofs.Common.{◌++◌, take, arith, length-append}
use Rattle.std.proofs.lemmas.List.{length-take-le}
use Rattle.crp_plan.proofs.Interruptions.{transfers_on}
use Rattle.crp_cert.proofs.FromSource.{consumes_on}
use Rattle.crp_cert.proofs.sources.pass_rest.Goals as goal

pub loop-n-preserved : goal.loop-n-preserved
loop-n-preserved g c =
    let o = c.loop-n.invariant in
    let got = take c.in-Ok.n c.read_some.new.piece in
    record {
      got = o.got ++ got;
      consumed = consumes_on _ _ _ o.got got o.consumed c.in-Ok.ensures.got;
      counted = omega (arith, o.counted, length-append o.got got, length-take-le c.in-Ok.n c.read_some.new.piece c.in-Ok.ensures.bound, c.if-n-room.false);
      transfers = transfers_on o.transfers c.in-Ok.ensures.done;
    }
