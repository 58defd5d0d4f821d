use Rattle.std.proofs.Common.{true, false}
use Rattle.crp_callers.proofs.OverFiles.{files_left}
use Rattle.crp_callers.proofs.files.files_of_run.Goals as goal

pub returns : goal.returns
returns g c = files_left c.args.names c.args.settings true false _ c.run_job.result c.requires.states c.requires.two c.run_job.ensures.done
