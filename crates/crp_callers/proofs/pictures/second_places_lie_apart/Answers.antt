use Rattle.std.proofs.Common.{◌≡◌, ℕ, ap, arith}
use Rattle.crp_said.specs.declared.moves.Place.{Place}
use Rattle.crp_callers.specs.SmallReport.{place}
use Rattle.crp_callers.proofs.pictures.second_places_lie_apart.Goals as goal

pub returns-clause-apart : goal.returns-clause-apart
returns-clause-apart c = λ tiers high.
    c.places_lie_apart.ensures.apart tiers (place 1 2) (place 2 2) (omega arith, omega arith, high) (omega arith, omega arith, high)
    (λ same. let row : ◌≡◌ {A = ℕ} 1 2 = ap (λ (p : Place). p.row) same in omega (arith, row))

pub returns-clause-drawn : goal.returns-clause-drawn
returns-clause-drawn c = c.places_lie_apart.ensures.drawn 2 (place 1 2)

pub returns-clause-label : goal.returns-clause-label
returns-clause-label c = λ cells who there. c.places_lie_apart.ensures.label 2 3 cells (place 1 2) who (omega arith) (omega arith) there
