use Rattle.std.proofs.Common.{◌∙◌, ap}
use Rattle.crp_yard.specs.Faults.{is_named}
use Rattle.crp_yard.specs.Listings.{entries_listed}
use Rattle.crp_yard.proofs.ListingSteps.{named_by, names_listed}
use Rattle.crp_yard.proofs.listing.Listing.is_named.Goals as goal

pub returns : goal.returns
returns c =
    let places = c.self.inside.places.keys in
    let names = c.self.inside.names.keys in
    c.contains.ensures ∙ named_by names (entries_listed places names) c.args.container.now (names_listed places names c.self.invariant.one_for_each)
    ∙ ap (λ entries. is_named entries c.args.container.now) c.self.view_is
