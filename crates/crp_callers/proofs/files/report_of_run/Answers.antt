use Rattle.std.proofs.Common.{Some, true, false, refl, ap}
use Rattle.crp_callers.proofs.OverFiles.{run_reported}
use Rattle.crp_callers.proofs.files.report_of_run.Goals as goal

pub returns : goal.returns
returns g c =
    run_reported c.args.names c.args.settings true false _ c.in_ok-run_job.field-0 c.run_job.new.streams.out.bytes.items (record { held = ap Some c.new-out.ensures.bytes; holds = refl })
    c.in_ok-run_job.ensures.done
