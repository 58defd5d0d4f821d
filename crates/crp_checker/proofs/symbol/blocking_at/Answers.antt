use Rattle.crp_bay.proofs.Walked.{allows}
use Rattle.crp_checker.proofs.symbol.blocking_at.Goals as goal

pub blocking_after-requires-clause-mover : goal.blocking_after-requires-clause-mover
blocking_after-requires-clause-mover c = let a = allows c.args.place.now.place c.in-Some.row (c.requires c.in-Some.row c.in-Some.is) in c.mover.ensures a.unfinished
