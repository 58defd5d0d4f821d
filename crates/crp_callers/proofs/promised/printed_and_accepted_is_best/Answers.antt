use Rattle.crp_said.specs.declared.said.Said.TheVariants.{Optimal}
use Rattle.crp_callers.proofs.promised.printed_and_accepted_is_best.Goals as goal

pub returns : goal.returns
returns c = λ h bay lines certificate count looks.
    let so = ((c.true_if_it_looks_so.ensures h (record { bay = bay; said = Optimal count; lines = lines; certificate = certificate })).0 looks).so in
    record { reached = (so.0.moves, so.0.complete, so.0.counted); least = so.1 }
