use Rattle.std.proofs.Common.{◌≡◌, ◌∙◌, Vec, Global, ℕ, Some, is_some, false, sym, ap}
use Rattle.std.specs.Option.{option_map}
use Rattle.std.specs.Map.{lookup}
use Rattle.crp_yard.specs.Places.{same_place}
use Rattle.crp_yard.specs.Inventory.{container_at}
use Rattle.crp_yard.specs.Listings.{entries_listed}
use Rattle.crp_yard.proofs.ListingSteps.{no_value, taken_listed, read_listed, position_is}
use Rattle.crp_yard.proofs.listing.Listing.container_at.Goals as goal

pub returns-in-Some-get_index : goal.returns-in-Some-get_index
returns-in-Some-get_index c =
    let places = c.self.inside.places.keys in
    let names = c.self.inside.names.keys in
    let test = same_place c.args.place.now in
    let at = position_is test places c.in-Some.i (sym c.in-Some.ensures.index) in
    ap Some c.as_slice.ensures.value
    ∙ ap (option_map (λ (name : Vec ℕ Global). name.items)) c.in-Some-get_index.ensures.key
    ∙ sym (read_listed test places names c.in-Some.i c.self.invariant.one_for_each at.0 at.1)
    ∙ ap (λ entries. container_at entries c.args.place.now) c.self.view_is

pub returns-in-None : goal.returns-in-None
returns-in-None c =
    let places = c.self.inside.places.keys in
    let names = c.self.inside.names.keys in
    let test = same_place c.args.place.now in
    let absent : is_some (lookup test (entries_listed places names)) ≡ false = taken_listed test places names c.self.invariant.one_for_each ∙ sym c.in-None.ensures.found in
    sym (no_value (lookup test (entries_listed places names)) absent) ∙ ap (λ entries. container_at entries c.args.place.now) c.self.view_is
