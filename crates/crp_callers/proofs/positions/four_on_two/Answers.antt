use Rattle.std.proofs.Common.{sym, subst, refl, arith}
use Rattle.std.specs.Prelude.{Contains}
use Rattle.std.proofs.lemmas.Bool.{false≢true}
use Rattle.crp_bay.specs.Back.{PlaceAndTrail}
use Rattle.crp_bay.specs.Positions.{targets}
use Rattle.crp_callers.proofs.Walked.{begins}
use Rattle.crp_callers.proofs.positions.four_on_two.Goals as goal

pub unreachable-requires : goal.unreachable-requires
unreachable-requires c =
    let start = begins _ _ c.requires c.start.ensures.value in
    false≢true (c.in_default.ensures.target.1 (subst (λ (x : PlaceAndTrail). Contains (targets x.place) 3) (sym start) (1, omega arith, refl)))
