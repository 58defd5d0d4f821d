use Rattle.std.proofs.Common.{◌≤◌, ◌∙◌, List, ℕ, sym, ap, subst}
use Rattle.crp_yard.specs.Inventory.{times}
use Rattle.crp_yard.specs.Listings.{entry_names}
use Rattle.crp_yard.proofs.ListingSteps.{names_listed}
use Rattle.crp_yard.proofs.listing.Listing.into_names.Goals as goal

pub returns-clause-names : goal.returns-clause-names
returns-clause-names c = sym (names_listed c.self.inside.places.keys c.self.inside.names.keys c.self.invariant.one_for_each) ∙ ap entry_names c.self.view_is

pub returns-clause-once : goal.returns-clause-once
returns-clause-once c =
    let listed = names_listed c.self.inside.places.keys c.self.inside.names.keys c.self.invariant.one_for_each in
    let P : List (List ℕ) → Type 0 = λ names. (container : List ℕ) → times container names ≤ 1 in
    subst P (sym listed ∙ ap entry_names c.self.view_is) c.self.invariant.once
