-- Nothing is lost of the front so far, and no call has failed.
use Rattle.std.proofs.Common.{◌≡◌, ◌-◌, cond}
use Rattle.std.specs.Io.KnownBytes.{Keeps}
use Rattle.arrayvec.specs.ArrayVec.{array_vec_len}
use Rattle.crp_plan.specs.Devices.{InterruptedMore}
use Rattle.crp_separated.specs.Given.{unmarked}
use Rattle.crp_separated.proofs.unmarked.Unmarked.look_at_front.Given as goal

abbrev pub invariant-loop-self : goal.invariant-loop-self
invariant-loop-self g l = record {
  keeps : Keeps (unmarked l.initial.self.looked l.initial.self.front.items (g.R.Source.remaining l.initial.self.source)) (unmarked l.self.looked l.self.front.items (g.R.Source.remaining l.self.source));
  count : g.R.Source.failures l.self.source ≡ g.R.Source.failures l.initial.self.source;
  interrupted : InterruptedMore 0 (g.R.Source.interrupted l.initial.self.source) (g.R.Source.interrupted l.self.source);
}

abbrev pub decreases-loop-self : goal.decreases-loop-self
decreases-loop-self g l = cond l.self.looked 0 (4 - array_vec_len l.self.front)
