use Rattle.std.proofs.Common.{◌≡◌, ◌+◌, length, map, refl, subst, arith}
use Rattle.crp_movins.specs.Kinds.{kind_of}
use Rattle.crp_movins.specs.Places.{kind_at}
use Rattle.crp_notes.specs.Slots.{placed_before}
use Rattle.crp_notes.specs.Namings.{container_placed}
use Rattle.crp_notes.proofs.InForce.{placed-more}
use Rattle.crp_notes.proofs.naming.placements.Goals as goal

pub loop-i-init : goal.loop-i-init
unfolding kind_at kind_of
loop-i-init c = record {
  few = let none : c.start-standing.result.messages ≡ 0 = (c.start-standing.ensures c.args.segments.now c.args.loading.now).messages in omega (arith, none);
  stands = c.start-standing.ensures c.args.segments.now c.args.loading.now;
  placed = rw c.new-all.ensures.items refl;
}

pub after-standing-requires : goal.after-standing-requires
after-standing-requires c = omega (arith, c.loop-i.invariant.few, c.loop-i-test.true, c.count-i-end.ensures.small)

pub loop-i-preserved : goal.loop-i-preserved
loop-i-preserved c =
    let segments = c.args.segments.now in
    let loading = c.args.loading.now in
    let h = c.loop-i.invariant in
    record {
      few = omega (arith, h.few, c.after-standing.ensures.few);
      stands = c.after-standing.ensures.stands segments (c.loop-i.i + 1) h.stands c.said_by-says.ensures;
      placed = placed-more segments loading (c.loop-i.i + 1) c.placed.result (map container_placed c.loop-i.all.items) (map container_placed c.push_placed.new.placed.items) (c.placed.ensures segments loading (c.loop-i.i + 1) h.stands c.said_by-says.ensures) h.placed c.in_ok-push_placed.ensures;
    }

pub returns : goal.returns
returns c =
    let all : c.loop-i.i ≡ length c.args.segments.now = omega (arith, c.loop-i-test.false, c.count-i-end.ensures.value) in
    subst (λ n. map container_placed c.loop-i.all.items ≡ placed_before c.args.segments.now c.args.loading.now (n + 1)) all c.loop-i.invariant.placed
