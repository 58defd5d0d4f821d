use Rattle.std.proofs.Common.{◌≡◌, ◌∙◌, length, sym, ap, arith}
use Rattle.crp_yard.proofs.ListingSteps.{length_listed}
use Rattle.crp_yard.proofs.listing.Listing.len.Goals as goal

pub returns-clause-value : goal.returns-clause-value
returns-clause-value c = c.len.ensures.len ∙ sym (length_listed c.self.inside.places.keys c.self.inside.names.keys c.self.invariant.one_for_each) ∙ ap length c.self.view_is

pub returns-clause-few : goal.returns-clause-few
returns-clause-few c =
    let long : length c.args.self.now ≡ length c.self.inside.names.keys = ap length (sym c.self.view_is) ∙ length_listed c.self.inside.places.keys c.self.inside.names.keys c.self.invariant.one_for_each in
    let few = c.self.invariant.few in
    omega arith
