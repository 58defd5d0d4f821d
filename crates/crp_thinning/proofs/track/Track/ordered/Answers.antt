use Rattle.std.proofs.Common.{length, reverse, subst}
use Rattle.crp_bay.specs.Back.{place_of}
use Rattle.crp_thinning.specs.Steps.{PlaceAndSteps, IsFine}
use Rattle.crp_thinning.proofs.Forward.{fine_now}
use Rattle.crp_thinning.proofs.track.Track.ordered.Goals as goal

pub returns-clause-fine : goal.returns-clause-fine
returns-clause-fine c =
    subst (λ (v : PlaceAndSteps). IsFine (length v.steps) v.place) c.self.view_is
    (fine_now (reverse c.self.inside.steps.items) (place_of c.self.inside.heights.items c.self.inside.ordered c.self.inside.next c.self.inside.stacks) c.self.invariant)
