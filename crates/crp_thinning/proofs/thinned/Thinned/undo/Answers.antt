use Rattle.std.proofs.Common.{length, ap, arith}
use Rattle.crp_thinning.specs.Steps.{trail_of}
use Rattle.crp_thinning.proofs.Freed.{freed_back}
use Rattle.crp_thinning.proofs.thinned.Thinned.undo.Goals as goal

pub invariant_of-self : goal.invariant_of-self
invariant_of-self c =
    let freed = freed_back c.self.inside.blocking c.go_back.new.track.place (trail_of c.go_back.new.track.steps c.go_back.new.track.place) (trail_of c.self.inside.track.steps c.self.inside.track.place) c.self.invariant.freed c.go_back.ensures.before in
    let more = freed.1 in
    record {
      thin = c.go_back.ensures.thin;
      deep = omega (arith, c.self.invariant.deep, ap length c.go_back.ensures.before);
      blocks = freed.0;
      few = omega arith;
      freed = freed.2;
    }
