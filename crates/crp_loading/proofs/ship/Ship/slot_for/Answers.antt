use Rattle.std.proofs.Common.{◌≡◌, ◌∙◌, Some, None, sym, arith}
use Rattle.crp_movins.specs.Accepted.{ordered_containers}
use Rattle.crp_loading.specs.Turns.{number_from}
use Rattle.crp_loading.proofs.ShipSteps.{slot_there, no_slot, place_within}
use Rattle.crp_loading.proofs.ship.Ship.slot_for.Goals as goal

pub offset_bounds-self-inside-place : goal.offset_bounds-self-inside-place
offset_bounds-self-inside-place c =
    let found : number_from 0 (ordered_containers c.self.inside.orders.now) c.bytes.result.now ≡ Some c.in-Some.place.now = sym (c.self.invariant.2 c.bytes.result) ∙ sym c.in-Some.ensures.value in
    let within = place_within c.self.inside.orders.now c.bytes.result.now c.in-Some.place.now found in
    omega (arith, within)

pub bounds-self-inside-place : goal.bounds-self-inside-place
bounds-self-inside-place c =
    let found : number_from 0 (ordered_containers c.self.inside.orders.now) c.bytes.result.now ≡ Some c.in-Some.place.now = sym (c.self.invariant.2 c.bytes.result) ∙ sym c.in-Some.ensures.value in
    place_within c.self.inside.orders.now c.bytes.result.now c.in-Some.place.now found

pub returns-in-Some : goal.returns-in-Some
returns-in-Some c =
    let found : number_from 0 (ordered_containers c.self.inside.orders.now) c.bytes.result.now ≡ Some c.in-Some.place.now = sym (c.self.invariant.2 c.bytes.result) ∙ sym c.in-Some.ensures.value in
    rw (← c.self.view_is, ← c.bytes.ensures) (sym (slot_there c.self.inside.orders.now c.bytes.result.now c.in-Some.place.now c.index-self-place.result found))

pub returns-in-None : goal.returns-in-None
returns-in-None c =
    let found : number_from 0 (ordered_containers c.self.inside.orders.now) c.bytes.result.now ≡ None = sym (c.self.invariant.2 c.bytes.result) ∙ sym c.in-None.ensures.value in
    rw (← c.self.view_is, ← c.bytes.ensures) (sym (no_slot 0 c.self.inside.orders.now c.bytes.result.now found))
