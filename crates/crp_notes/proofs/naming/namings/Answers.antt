use Rattle.std.proofs.Common.{◌≡◌, ◌+◌, length, map, refl, subst, arith}
use Rattle.crp_movins.specs.Kinds.{kind_of}
use Rattle.crp_movins.specs.Places.{kind_at}
use Rattle.crp_notes.specs.Slots.{named_before}
use Rattle.crp_notes.specs.Namings.{named}
use Rattle.crp_notes.proofs.InForce.{named-more}
use Rattle.crp_notes.proofs.naming.namings.Goals as goal

pub loop-i-init : goal.loop-i-init
unfolding kind_at kind_of
loop-i-init c = record {
  few = let none : c.start-standing.result.messages ≡ 0 = (c.start-standing.ensures c.args.segments.now c.args.loading.now).messages in omega (arith, none);
  stands = c.start-standing.ensures c.args.segments.now c.args.loading.now;
  named = rw c.new-namings.ensures.items refl;
}

pub after-standing-requires : goal.after-standing-requires
after-standing-requires c = omega (arith, c.loop-i.invariant.few, c.loop-i-test.true, c.count-i-end.ensures.small)

pub loop-i-preserved : goal.loop-i-preserved
loop-i-preserved c =
    let segments = c.args.segments.now in
    let loading = c.args.loading.now in
    let h = c.loop-i.invariant in
    record {
      few = omega (arith, h.few, c.after-standing.ensures.few);
      stands = c.after-standing.ensures.stands segments (c.loop-i.i + 1) h.stands c.said_by-says.ensures;
      named = named-more segments loading (c.loop-i.i + 1) c.named.result (map named c.loop-i.namings.items) (map named c.push.new.namings.items) (c.named.ensures segments loading (c.loop-i.i + 1) h.stands c.said_by-says.ensures) h.named c.in_ok-push.ensures;
    }

pub returns : goal.returns
returns c =
    let all : c.loop-i.i ≡ length c.args.segments.now = omega (arith, c.loop-i-test.false, c.count-i-end.ensures.value) in
    subst (λ n. map named c.loop-i.namings.items ≡ named_before c.args.segments.now c.args.loading.now (n + 1)) all c.loop-i.invariant.named
