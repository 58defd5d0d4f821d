use Rattle.std.proofs.Common.{◌≡◌, ◌∙◌, inr, sym, ap, true, false}
use Rattle.crp_follow.specs.Crane.{container_of}
use Rattle.crp_follow.proofs.MoveSteps.{IsLifted, is_lifted, made_shift, no_place, same_names}
use Rattle.crp_follow.proofs.moving.make_move.Goals as goal

pub returns-then-not-down-clause-wrong : goal.returns-then-not-down-clause-wrong
returns-then-not-down-clause-wrong c =
    let rows = c.args.rows.now.items in
    let m = c.args.stated.now in
    let named : c.in-Some.lifted ≡ container_of m.said = sym c.bytes.ensures ∙ same_names c.bytes.result.now c.bytes-2.result.now c.if-ne.ensures ∙ c.bytes-2.ensures ∙ c.container_of.ensures in
    let lifted : IsLifted rows m.said c.lift.new.rows.items = is_lifted rows c.lift.new.rows.items m.said c.from_of-from.result c.in-Some.lifted c.from_of-from.ensures named c.in-Some.ensures.lifted in
    inr (no_place c.args.heights.now rows c.lift.new.rows.items m c.in-Shift.from c.in-Shift.to c.in-Shift.container c.in-Shift.is lifted
    (λ beneath free. let t : c.in_ok-down-in-Shift.down ≡ true = c.in_ok-down-in-Shift.ensures.not beneath free in let f : c.in_ok-down-in-Shift.down ≡ false = c.if-not-down.true in cc))

pub returns-else-not-down-clause-made : goal.returns-else-not-down-clause-made
returns-else-not-down-clause-made c =
    let rows = c.args.rows.now.items in
    let m = c.args.stated.now in
    let named : c.in-Some.lifted ≡ container_of m.said = sym c.bytes.ensures ∙ same_names c.bytes.result.now c.bytes-2.result.now c.if-ne.ensures ∙ c.bytes-2.ensures ∙ c.container_of.ensures in
    let lifted : IsLifted rows m.said c.lift.new.rows.items = is_lifted rows c.lift.new.rows.items m.said c.from_of-from.result c.in-Some.lifted c.from_of-from.ensures named c.in-Some.ensures.lifted in
    made_shift c.args.heights.now rows c.lift.new.rows.items c.set_down.new.rows.items m.said c.in-Shift.from c.in-Shift.to c.in-Shift.container c.in-Some.lifted c.in-Shift.is lifted
    (λ e. c.if-to-from.false (e ∙ ap (λ p. p.row) (sym c.from_of-from.ensures))) named (c.in_ok-down-in-Shift.ensures.down c.if-not-down.false)
