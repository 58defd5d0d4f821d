use Rattle.std.proofs.Common.{length, sym, ap, subst}
use Rattle.crp_thinned.specs.Missing.{IsSoundlyThin}
use Rattle.crp_thinning.specs.Steps.{PlaceAndSteps, trail_of, AreFreed}
use Rattle.crp_thinning.proofs.Begun.{thin_start}
use Rattle.crp_thinning.proofs.thinned.Thinned.of.Goals as goal

pub invariant_of-result : goal.invariant_of-result
invariant_of-result c = record {
  thin = subst (λ (v : PlaceAndSteps). IsSoundlyThin v.place) (sym c.start-track.ensures.value) (thin_start c.args.position.now.place c.start-track.ensures.reached);
  deep = sym (ap (λ (v : PlaceAndSteps). length (trail_of v.steps v.place)) c.start-track.ensures.value);
  blocks = c.blocking-blocking.ensures.value;
  few = c.blocking-blocking.ensures.few;
  freed = subst (λ (v : PlaceAndSteps). AreFreed c.blocking-blocking.result (trail_of v.steps v.place)) (sym c.start-track.ensures.value) tt;
}
