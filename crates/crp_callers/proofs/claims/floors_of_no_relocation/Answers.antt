use Rattle.std.proofs.Common.{arith}
use Rattle.crp_callers.proofs.claims.floors_of_no_relocation.Goals as goal

pub returns-clause-whole : goal.returns-clause-whole
returns-clause-whole c = λ x moves kept root none plan nothing. omega (arith, c.whole_part_bounds.ensures x moves kept root none plan, nothing)

pub returns-clause-parts : goal.returns-clause-parts
returns-clause-parts c = λ p parts floor moves is each shows needed plan nothing.
    omega (arith, c.parts_cover.ensures p parts floor moves is each shows needed plan, nothing)
