use Rattle.crp_report.proofs.Shown.{shows_text}
use Rattle.crp_report.proofs.watching.show.Goals as goal

pub returns : goal.returns
returns g c = shows_text c.write_text-shown.result _ _ c.args.text.now c.write_text-shown.ensures.all c.write_text-shown.ensures.part
