use Rattle.std.proofs.Common.{◌∙◌, sym, ap}
use Rattle.crp_yard.specs.Places.{same_place}
use Rattle.crp_yard.specs.Faults.{is_taken}
use Rattle.crp_yard.proofs.ListingSteps.{taken_listed}
use Rattle.crp_yard.proofs.listing.Listing.is_taken.Goals as goal

pub returns : goal.returns
returns c =
    c.contains.ensures ∙ sym (taken_listed (same_place c.args.place.now) c.self.inside.places.keys c.self.inside.names.keys c.self.invariant.one_for_each)
    ∙ ap (λ entries. is_taken entries c.args.place.now) c.self.view_is
