use Rattle.std.proofs.Common.{◌≡◌, true, nat_lt, subst}
use Rattle.std.proofs.lemmas.Bool.{ltb-true, lt-ltb}
use Rattle.crp_plan.specs.Bay.{Position, IsFinished}
use Rattle.crp_bay.specs.Back.{PlaceAndTrail, place_of}
use Rattle.crp_bay.proofs.Reading.{finished_test}
use Rattle.crp_bay.proofs.position.Position.is_done.Goals as goal

pub returns : goal.returns
returns c =
    let s : Position = place_of c.self.inside.heights.items c.self.inside.ordered c.self.inside.next c.self.inside.stacks.items in
    let t = finished_test s c.self.invariant.reached in
    record {
      done = subst (λ (v : PlaceAndTrail). (nat_lt s.ordered s.next ≡ true → IsFinished v.place) × (IsFinished v.place → nat_lt s.ordered s.next ≡ true)) c.self.view_is
          (λ b. t.0 (ltb-true s.ordered s.next b), λ e. lt-ltb s.ordered s.next (t.1 e));
    }
