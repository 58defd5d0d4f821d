use Rattle.std.proofs.Common.{ap, refl, arith}
use Rattle.crp_bay.specs.Back.{PlaceAndTrail}
use Rattle.crp_callers.specs.SmallBays.{bay_of_six}
use Rattle.crp_callers.proofs.Walked.{first_of, begins, relocated, goes}
use Rattle.crp_callers.proofs.positions.two_relocations.Goals as goal

pub returns-clause-place : goal.returns-clause-place
returns-clause-place c =
    let start = begins _ _ c.requires c.start-position.ensures.value in
    let four = goes _ _ _ (first_of bay_of_six) 2 start c.push-four.ensures.target c.push-four.ensures.pushed (0, omega arith, refl) in
    let five = goes _ _ _ (relocated (first_of bay_of_six) 2) 2 four c.push-five.ensures.target c.push-five.ensures.pushed (0, omega arith, refl) in
    ap (λ (x : PlaceAndTrail). x.place) five
