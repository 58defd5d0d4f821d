use Rattle.std.proofs.Common.{Some}
use Rattle.crp_said.specs.declared.said.SaidCause.TheVariants.{Edited}
use Rattle.crp_said.specs.declared.said.Said.TheVariants.{Between}
use Rattle.crp_audit.specs.Headline.{Reported}
use Rattle.crp_callers.proofs.promised.edited_plan_is_bounded.Goals as goal

pub returns-clause-bounds : goal.returns-clause-bounds
returns-clause-bounds c = λ h bay lines certificate lower upper looks.
    let b : Reported = record { bay = bay; said = Between lower (Some upper) Edited; lines = lines; certificate = certificate } in
    let so = ((c.true_if_it_looks_so.ensures h b).0 looks).so in
    let prints = so.1 in
    (so.0, (prints.moves, prints.complete, prints.counted))

pub returns-clause-best : goal.returns-clause-best
returns-clause-best c = λ h bay lines certificate count looks.
    let b : Reported = record { bay = bay; said = Between count (Some count) Edited; lines = lines; certificate = certificate } in
    let so = ((c.true_if_it_looks_so.ensures h b).0 looks).so in
    let prints = so.1 in
    record { reached = (prints.moves, prints.complete, prints.counted); least = so.0 }
