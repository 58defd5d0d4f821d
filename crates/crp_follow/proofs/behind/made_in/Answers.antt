use Rattle.std.proofs.Common.{◌≡◌, ◌∙◌, ◌<◌, ℕ, length, map, take, refl, sym, ap, subst}
use Rattle.std.specs.List.{list_any, position_or_len}
use Rattle.std.proofs.lemmas.Option.{slice_get_read}
use Rattle.crp_plan.specs.BayNames.{same_bay}
use Rattle.crp_yard.proofs.ListingSteps.{position_is}
use Rattle.crp_follow.specs.declared.followed.FollowedBay.{FollowedBay}
use Rattle.crp_follow.specs.Stated.{moves_of}
use Rattle.crp_follow.proofs.Named.{made_there, made_uncounted, made_nowhere, mapped_length, said_of_first}
use Rattle.crp_follow.proofs.behind.made_in.Goals as goal

pub returns-in_default : goal.returns-in_default
returns-in_default c = sym (made_nowhere c.args.bays.now c.args.counts.now c.args.name.now (ap (list_any (same_bay c.args.name.now)) (sym c.requires) ∙ sym c.in_default.ensures.found))

pub returns-in-Some-get : goal.returns-in-Some-get
returns-in-Some-get c =
    let bays = c.args.bays.now in
    let i : ℕ = c.in-Some.i in
    let test = same_bay c.args.name.now in
    let at = position_is test c.args.names.now.keys i (sym c.in-Some.ensures.index) in
    let first : position_or_len test (map (λ (b : FollowedBay). b.stated.bay) bays) ≡ i = ap (position_or_len test) (sym c.requires) ∙ at.0 in
    let within : i < length bays = subst (λ (n : ℕ). i < n) (ap length c.requires ∙ mapped_length (λ (b : FollowedBay). b.stated.bay) bays) at.1 in
    let there = slice_get_read bays (length bays) i c.index-bays-i.result refl within c.index-bays-i.is in
    ap moves_of (c.first_of.ensures ∙ ap (take c.in-Some-get.count.now) c.deref.ensures.value)
    ∙ ap (λ (b : FollowedBay). moves_of (take c.in-Some-get.count.now b.stated.moves.items)) (sym c.index-bays-i.is)
    ∙ said_of_first c.in-Some-get.count.now c.index-bays-i.result.stated.moves.items
    ∙ sym (made_there bays c.args.counts.now c.args.name.now i c.in-Some-get.count.now c.index-bays-i.result first there
    (slice_get_read c.args.counts.now (length c.args.counts.now) i c.in-Some-get.count.now refl c.in-Some-get.ensures.lookup.3.0 c.in-Some-get.ensures.lookup.1))

pub returns-in-None : goal.returns-in-None
returns-in-None c =
    let test = same_bay c.args.name.now in
    let at = position_is test c.args.names.now.keys c.in-Some.i (sym c.in-Some.ensures.index) in
    let first : position_or_len test (map (λ (b : FollowedBay). b.stated.bay) c.args.bays.now) ≡ c.in-Some.i = ap (position_or_len test) (sym c.requires) ∙ at.0 in
    sym (made_uncounted c.args.bays.now c.args.counts.now c.args.name.now c.in-Some.i first c.in-None.ensures.lookup.3)
