use Rattle.std.proofs.Common.{◌≡◌, ◌<◌, ◌∙◌, length, sym, ap, arith}
use Rattle.std.specs.Prelude.{slice_get}
use Rattle.std.proofs.lemmas.Bool.{false≢true}
use Rattle.crp_yard.proofs.ListingSteps.{length_listed, place_listed}
use Rattle.crp_yard.proofs.listing.Listing.place.Goals as goal

pub unreachable-requires : goal.unreachable-requires
unreachable-requires c =
    let places = c.self.inside.places.keys in
    let long : length c.args.self.now ≡ length c.self.inside.names.keys = ap length (sym c.self.view_is) ∙ length_listed places c.self.inside.names.keys c.self.invariant.one_for_each in
    let same = c.self.invariant.one_for_each in
    let low = c.requires in
    let within : c.args.i < length places = omega arith in
    false≢true (c.in-None.ensures.found.1 within)

pub returns : goal.returns
returns c =
    let places = c.self.inside.places.keys in
    let names = c.self.inside.names.keys in
    let found = place_listed places names c.args.i c.in-Some.place.now c.self.invariant.one_for_each (sym c.in-Some.ensures.key) in
    (found.0, ap (λ entries. slice_get entries c.args.i) (sym c.self.view_is) ∙ found.1)
