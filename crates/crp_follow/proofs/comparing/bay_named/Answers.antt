use Rattle.std.proofs.Common.{◌≡◌, ◌∙◌, ◌<◌, ℕ, length, refl, sym, ap, subst}
use Rattle.std.proofs.lemmas.Option.{slice_get_read}
use Rattle.crp_plan.specs.BayNames.{same_bay}
use Rattle.crp_yard.proofs.ListingSteps.{position_is}
use Rattle.crp_follow.specs.declared.followed.FollowedBay.{FollowedBay}
use Rattle.crp_follow.proofs.ComparingSteps.{named_there, named_nowhere}
use Rattle.crp_follow.proofs.Named.{mapped_length}
use Rattle.crp_follow.proofs.comparing.bay_named.Goals as goal

pub returns-in-Some : goal.returns-in-Some
returns-in-Some c =
    let bays = c.args.bays.now in
    let i : ℕ = c.in-Some.i in
    let at = position_is (same_bay c.args.name.now) c.args.names.now.keys i (sym c.in-Some.ensures.index) in
    let within : i < length bays = subst (λ (n : ℕ). i < n) (ap length c.requires ∙ mapped_length (λ (b : FollowedBay). b.stated.bay) bays) at.1 in
    named_there bays c.args.name.now c.args.names.now.keys i c.index-bays-i.result c.requires c.in-Some.ensures.index
    (slice_get_read bays (length bays) i c.index-bays-i.result refl within c.index-bays-i.is)

pub returns-in-None : goal.returns-in-None
returns-in-None c = named_nowhere c.args.bays.now c.args.name.now c.args.names.now.keys c.requires c.in-None.ensures.found
