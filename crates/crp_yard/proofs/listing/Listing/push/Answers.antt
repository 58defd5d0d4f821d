use Rattle.std.proofs.Common.{◌≡◌, ◌<◌, ◌++◌, ◌∷◌, [], Bool, false, length, ◌∙◌, sym, ap}
use Rattle.std.specs.Prelude.{if◌then◌else◌}
use Rattle.std.specs.List.{list_any}
use Rattle.std.specs.Str.{bytes_eq}
use Rattle.crp_yard.specs.Places.{same_place}
use Rattle.crp_yard.specs.Faults.{is_named, is_taken, max_containers}
use Rattle.crp_yard.specs.Listings.{entries_listed}
use Rattle.crp_yard.proofs.ListingSteps.{listing-push, names_listed, named_by, taken_listed, pushed_listed}
use Rattle.crp_yard.proofs.listing.Listing.push.Goals as goal

names_grown : (c : goal.In_ok-insert-2) → c.insert.new.self.keys ≡ c.self.inside.names.keys ++ c.in_ok-name.name ∷ []
names_grown c =
    let places = c.self.inside.places.keys in
    let names = c.self.inside.names.keys in
    let name = c.in_ok-name.name in
    let fresh : is_named (entries_listed places names) name.items ≡ false = rw (c.self.view_is, c.in_ok-name.ensures.items) c.requires.fresh in
    let absent : list_any (λ k. bytes_eq name.items k.items) names ≡ false = named_by names (entries_listed places names) name.items (names_listed places names c.self.invariant.one_for_each) ∙ fresh in
    c.in_ok-insert.ensures.keys ∙ ap (λ (b : Bool). if b then names else names ++ name ∷ []) absent

places_grown : (c : goal.In_ok-insert-2) → c.insert-2.new.self.keys ≡ c.self.inside.places.keys ++ c.args.place ∷ []
places_grown c =
    let places = c.self.inside.places.keys in
    let names = c.self.inside.names.keys in
    let absent : list_any (same_place c.args.place) places ≡ false =
    sym (taken_listed (same_place c.args.place) places names c.self.invariant.one_for_each) ∙ ap (λ entries. is_taken entries c.args.place) c.self.view_is ∙ c.requires.free in
    c.in_ok-insert-2.ensures.keys ∙ ap (λ ps. if list_any (same_place c.args.place) ps then ps else ps ++ c.args.place ∷ []) c.in_ok-reserve.ensures.keys
    ∙ ap (λ (b : Bool). if b then places else places ++ c.args.place ∷ []) absent

pub invariant_of-self-2 : goal.invariant_of-self-2
invariant_of-self-2 c =
    let places = c.self.inside.places.keys in
    let names = c.self.inside.names.keys in
    let name = c.in_ok-name.name in
    let fresh : is_named (entries_listed places names) name.items ≡ false = rw (c.self.view_is, c.in_ok-name.ensures.items) c.requires.fresh in
    let room : length (entries_listed places names) < max_containers = rw c.self.view_is c.requires.room in
    rw (places_grown c, names_grown c) (listing-push places names c.args.place name c.self.invariant fresh room)

pub returns : goal.returns
returns c =
    let places = c.self.inside.places.keys in
    let names = c.self.inside.names.keys in
    let name = c.in_ok-name.name in
    rw (places_grown c, names_grown c) (pushed_listed places names c.args.place name c.self.invariant.one_for_each)
    ∙ ap (λ entries. entries ++ (c.args.place, name.items) ∷ []) c.self.view_is
    ∙ ap (λ l. c.args.self.now ++ (c.args.place, l) ∷ []) c.in_ok-name.ensures.items
