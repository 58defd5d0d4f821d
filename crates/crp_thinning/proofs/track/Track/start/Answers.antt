use Rattle.std.proofs.Common.{◌≡◌, reverse, sym, ap, ◌∙◌, subst}
use Rattle.crp_plan.specs.Bay.{Position}
use Rattle.crp_bay.specs.Back.{place_of}
use Rattle.crp_thinning.specs.Steps.{AreKept, IsFine}
use Rattle.crp_thinning.proofs.Begun.{fine_start}
use Rattle.crp_thinning.proofs.track.Track.start.Goals as goal

pub invariant_of-result : goal.invariant_of-result
invariant_of-result c =
    let s : Position = c.args.position.now.place in
    let u : Position = place_of c.heights_of.result.items c.ordered.result c.next.result c.of.result in
    let same : u ≡ s =
    ap (λ h. place_of h c.ordered.result c.next.result c.of.result) c.heights_of.ensures
    ∙ ap (λ o. place_of s.heights o c.next.result c.of.result) c.ordered.ensures.value
    ∙ ap (λ n. place_of s.heights s.ordered n c.of.result) c.next.ensures.value
    ∙ ap (place_of s.heights s.ordered s.next) c.of.ensures.value in
    subst (λ l. AreKept (reverse l) u) (sym c.new.ensures) (subst (IsFine 0) (sym same) (fine_start s c.next.ensures.reached))
