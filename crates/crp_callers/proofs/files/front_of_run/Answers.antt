use Rattle.std.proofs.Common.{Some, true, false, refl, ap}
use Rattle.crp_callers.proofs.OverFiles.{reported_so_far}
use Rattle.crp_callers.proofs.files.front_of_run.Goals as goal

pub returns-in-Err : goal.returns-in-Err
returns-in-Err g c =
    reported_so_far c.args.names c.args.settings true false _ c.in-Err.field-0 c.run_job.new.streams.out.bytes.items (record { held = ap Some c.new-out.ensures.bytes; holds = refl }) c.in-Err.ensures.done
