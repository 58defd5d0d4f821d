use Rattle.std.proofs.Common.{◌≡◌, ◌∙◌, ◌+◌, suc, Some, None, sym, ap, arith}
use Rattle.std.specs.Prelude.{option_map}
use Rattle.crp_loading.specs.Turns.{number_from}
use Rattle.crp_loading.proofs.ShipSteps.{next_number, number_within}
use Rattle.crp_loading.proofs.ship.Ship.turn_of.Goals as goal

pub overflow_add-result : goal.overflow_add-result
overflow_add-result c =
    let found : number_from 0 c.self.inside.sequence.now c.bytes.result.now ≡ Some c.in-Some.number.now = sym (c.self.invariant.1 c.bytes.result) ∙ sym c.in-Some.ensures.value in
    let within = number_within 0 c.self.inside.sequence.now c.bytes.result.now c.in-Some.number.now found in
    omega (arith, within.1, c.self.invariant.0)

pub returns-in-Some : goal.returns-in-Some
returns-in-Some c =
    let found : number_from 0 c.self.inside.sequence.now c.bytes.result.now ≡ Some c.in-Some.number.now = sym (c.self.invariant.1 c.bytes.result) ∙ sym c.in-Some.ensures.value in
    let next : c.in-Some.number.now + 1 ≡ suc c.in-Some.number.now = omega arith in
    rw (← c.self.view_is, ← c.bytes.ensures) (ap Some next ∙ ap (option_map suc) (sym found) ∙ sym (next_number 0 c.self.inside.sequence.now c.bytes.result.now))

pub returns-in-None : goal.returns-in-None
returns-in-None c =
    let found : number_from 0 c.self.inside.sequence.now c.bytes.result.now ≡ None = sym (c.self.invariant.1 c.bytes.result) ∙ sym c.in-None.ensures.value in
    rw (← c.self.view_is, ← c.bytes.ensures) (ap (option_map suc) (sym found) ∙ sym (next_number 0 c.self.inside.sequence.now c.bytes.result.now))
