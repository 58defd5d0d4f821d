use Rattle.std.proofs.Common.{◌≡◌, ℕ, ◌-◌, List, ◌++◌, length, take, sym, subst, arith, length-append}
use Rattle.std.proofs.lemmas.List.{length-take-le, take_all}
use Rattle.crp_plan.proofs.Interruptions.{transfers_on}
use Rattle.crp_cert.specs.HeadsFed.{HasFed, GoesOn}
use Rattle.crp_cert.specs.declared.open_head.HeadFed.TheVariants.{Open}
use Rattle.crp_cert.proofs.FromSource.{consumes_on, head_stands, fault_stays}
use Rattle.crp_cert.proofs.sources.head_from.Goals as goal

pub loop-n-preserved : goal.loop-n-preserved
loop-n-preserved g c =
    let o = c.loop-n.invariant in
    let got : List ℕ = take c.in-Ok.n c.read_some.new.piece in
    let k = c.in-Ok-read.field-0-1 in
    let all : k ≡ length got = c.in-Ok-read.ensures.all (subst GoesOn (sym c.in-Open.is) tt) in
    record {
      got = o.got ++ got;
      consumed = consumes_on _ _ _ o.got got o.consumed c.in-Ok.ensures.got;
      counted = omega (arith, o.counted, length-append o.got got, length-take-le c.in-Ok.n c.read_some.new.piece c.in-Ok.ensures.bound, c.if-n-room.false);
      front = subst (λ l. HasFed (o.got ++ l) (Open c.in-Open.next)) (take_all k got (omega (arith, all))) (subst (HasFed (o.got ++ take k got)) c.in-Open.is (c.in-Ok-read.ensures.fed o.got o.front));
      transfers = transfers_on o.transfers c.in-Ok.ensures.done;
    }

pub returns-in-Whole-clause-read : goal.returns-in-Whole-clause-read
returns-in-Whole-clause-read g c =
    let o = c.loop-n.invariant in
    let got : List ℕ = take c.in-Ok.n c.read_some.new.piece in
    let whole = subst (HasFed (o.got ++ take c.in-Ok-read.field-0-1 got)) c.in-Whole.is (c.in-Ok-read.ensures.fed o.got o.front) in
    head_stands _ _ o.got got c.in-Ok-read.field-0-1 c.in-Whole.head (consumes_on _ _ _ o.got got o.consumed c.in-Ok.ensures.got)
    (omega (arith, length-take-le c.in-Ok.n c.read_some.new.piece c.in-Ok.ensures.bound, c.in-Ok.ensures.bound, c.if-n-room.array_long)) whole.0 whole.1

pub returns-in-Faulty-clause-read : goal.returns-in-Faulty-clause-read
returns-in-Faulty-clause-read g c =
    let o = c.loop-n.invariant in
    let got : List ℕ = take c.in-Ok.n c.read_some.new.piece in
    let k = c.in-Ok-read.field-0-1 in
    fault_stays c.args.limit (c.loop-n.room - c.in-Ok.n) _ _ o.got got k c.in-Faulty.bay c.in-Faulty.fault (consumes_on _ _ _ o.got got o.consumed c.in-Ok.ensures.got)
    (omega (arith, o.counted, length-append o.got got, length-take-le c.in-Ok.n c.read_some.new.piece c.in-Ok.ensures.bound, c.if-n-room.false))
    c.in_ok-pass_rest-in-Faulty.ensures.within
    (subst (HasFed (o.got ++ take k got)) c.in-Faulty.is (c.in-Ok-read.ensures.fed o.got o.front))
