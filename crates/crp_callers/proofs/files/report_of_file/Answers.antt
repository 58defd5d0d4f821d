use Rattle.std.proofs.Common.{Some, refl, ap}
use Rattle.crp_callers.proofs.OverFiles.{file_reported}
use Rattle.crp_callers.proofs.files.report_of_file.Goals as goal

pub returns : goal.returns
returns g c = λ bytes known.
    file_reported c.args.name.now c.args.command _ c.in_ok-run_job.field-0 bytes c.run_job.new.streams.out.bytes.items c.requires known
    (record { held = ap Some c.new-out.ensures.bytes; holds = refl }) c.in_ok-run_job.ensures.done.0
