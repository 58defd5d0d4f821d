use Rattle.std.proofs.Common.{◌≡◌, ◌∙◌, refl, sym, None, length}
use Rattle.crp_yard.specs.Faults.{floating_before}
use Rattle.crp_yard.proofs.ListingSteps.{named_by}
use Rattle.crp_yard.proofs.YardSteps.{inventory_is_yard}
use Rattle.crp_yard.proofs.InventoryPlaces.{names_of_entries}
use Rattle.crp_yard.proofs.reading.yard_with.Goals as goal

pub with_names-requires-clause-yard : goal.with_names-requires-clause-yard
with_names-requires-clause-yard c =
    rw (c.in_ok-bays.ensures, c.in_ok-sizes.ensures.value) (inventory_is_yard c.args.sizes.now c.args.listing c.copy.ensures.sizes c.into_names.ensures.once)

pub with_names-requires-clause-names : goal.with_names-requires-clause-names
with_names-requires-clause-names c =
    let none : floating_before c.args.listing (length c.args.listing) ≡ None = sym c.in-None.ensures in
    rw (c.in_ok-bays.ensures) (λ name. named_by c.into_names.result.keys c.args.listing name (sym c.into_names.ensures.names)
    ∙ names_of_entries c.args.sizes.now c.requires.entries.0 c.args.listing c.requires.entries.1 none name)

pub returns-clause-given : goal.returns-clause-given
returns-clause-given c = c.with_names.ensures ∙ rw (c.in_ok-bays.ensures, c.in_ok-sizes.ensures.value) refl
