use Rattle.std.proofs.Common.{◌≡◌, ◌<◌, ◌∙◌, sym, length}
use Rattle.std.proofs.lemmas.Option.{MatchOption-at_some}
use Rattle.crp_order.proofs.ChosenSteps.{stays-there, stays-nowhere}
use Rattle.crp_order.proofs.choosing.stays.Goals as goal

pub name-requires : goal.name-requires
name-requires c = MatchOption-at_some (Unit {0}) (λ i. i < length c.args.yard.now.bays) c.in-Some.bay.now (sym c.in-Some.ensures.value) (c.requires.number_is_low c.args.container)

pub returns-in-Some : goal.returns-in-Some
returns-in-Some c =
    let low : c.in-Some.bay.now < length c.args.yard.now.bays =
    MatchOption-at_some (Unit {0}) (λ i. i < length c.args.yard.now.bays) c.in-Some.bay.now (sym c.in-Some.ensures.value) (c.requires.number_is_low c.args.container) in
    c.is_chosen.ensures
    ∙ sym (stays-there c.args.names.now c.args.yard.now c.args.bays.now.entries c.args.container c.in-Some.bay.now c.name.result.now c.requires (sym c.in-Some.ensures.value) low c.name.ensures)

pub returns-in-None : goal.returns-in-None
returns-in-None c = sym (stays-nowhere c.args.names.now c.args.yard.now c.args.bays.now.entries c.args.container c.requires (sym c.in-None.ensures.value))
