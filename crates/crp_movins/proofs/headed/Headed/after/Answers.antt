use Rattle.crp_movins.proofs.HeadingSteps.{headed-more}
use Rattle.crp_movins.proofs.headed.Headed.after.Goals as goal

pub returns : goal.returns
returns c =
    rw (c.or.ensures, c.or-2.ensures, c.then_some-ship.ensures, c.then_some-date.ensures)
    (headed-more c.args.at.now.segments.now c.args.at.now.loading.now c.args.at.now.number c.args.self c.names_ship.result c.names_date.result c.requires.here c.names_ship.ensures c.names_date.ensures)
