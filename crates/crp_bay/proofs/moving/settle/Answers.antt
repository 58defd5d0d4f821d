use Rattle.std.proofs.Common.{[], ◌+◌, get_or, sym, ap, ◌∙◌, arith}
use Rattle.crp_bay.specs.Positions.{ends_in}
use Rattle.crp_bay.specs.Back.{place_of}
use Rattle.crp_bay.proofs.Tops.{any_default}
use Rattle.crp_bay.proofs.Going.{settled_end}
use Rattle.crp_bay.proofs.Settling.{Turn, turn, turn_takes, turn_on}
use Rattle.crp_bay.proofs.moving.settle.Goals as goal

pub bounds-stacks-row : goal.bounds-stacks-row
bounds-stacks-row c =
    let t : Turn c.args.row_of.now (place_of c.args.heights.now c.args.ordered c.loop-next.next c.loop-next.stacks) = turn c.args.row_of.now _ c.loop-next.invariant.located c.loop-next-test.true in t.there

pub returns-then-not-is_on_top : goal.returns-then-not-is_on_top
returns-then-not-is_on_top c =
    let t : Turn c.args.row_of.now (place_of c.args.heights.now c.args.ordered c.loop-next.next c.loop-next.stacks) = turn c.args.row_of.now _ c.loop-next.invariant.located c.loop-next-test.true in
    let here = any_default c.loop-next.stacks (get_or c.args.row_of.now c.loop-next.next 0) [] c.index-stacks-row.result t.there ∙ sym c.ranks.ensures.value in
    settled_end (place_of c.args.heights.now c.args.ordered c.loop-next.next c.loop-next.stacks)
    (t.test ∙ ap (ends_in c.loop-next.next) here ∙ sym c.is_on_top.ensures ∙ c.if-not-is_on_top.true)
    ∙ c.loop-next.invariant.same

pub lift-rank-requires-clause-there : goal.lift-rank-requires-clause-there
lift-rank-requires-clause-there c =
    let t : Turn c.args.row_of.now (place_of c.args.heights.now c.args.ordered c.loop-next.next c.loop-next.stacks) = turn c.args.row_of.now _ c.loop-next.invariant.located c.loop-next-test.true in t.there

pub lift-rank-requires-clause-some : goal.lift-rank-requires-clause-some
lift-rank-requires-clause-some c =
    let t : Turn c.args.row_of.now (place_of c.args.heights.now c.args.ordered c.loop-next.next c.loop-next.stacks) = turn c.args.row_of.now _ c.loop-next.invariant.located c.loop-next-test.true in t.some

pub loop-next-preserved : goal.loop-next-preserved
loop-next-preserved c =
    let t : Turn c.args.row_of.now (place_of c.args.heights.now c.args.ordered c.loop-next.next c.loop-next.stacks) = turn c.args.row_of.now _ c.loop-next.invariant.located c.loop-next-test.true in
    let here = any_default c.loop-next.stacks (get_or c.args.row_of.now c.loop-next.next 0) [] c.index-stacks-row.result t.there ∙ sym c.ranks.ensures.value in
    let e = turn_takes c.args.row_of.now c.args.heights.now c.args.ordered c.loop-next.next (c.loop-next.next + 1) c.loop-next.stacks c.lift-rank.new.stacks t (omega arith) c.lift-rank.ensures.rest in
    let r = turn_on c.args.row_of.now (place_of c.args.heights.now c.args.ordered c.loop-next.next c.loop-next.stacks) (place_of c.args.heights.now c.args.ordered (c.loop-next.next + 1) c.lift-rank.new.stacks) (place_of c.args.heights.now c.args.ordered c.args.first c.args.stacks.now) c.loop-next.invariant.located (t.test ∙ ap (ends_in c.loop-next.next) here ∙ sym c.is_on_top.ensures ∙ c.if-not-is_on_top.false) e c.loop-next.invariant.same in
    record { located = r.0; same = r.1 }
