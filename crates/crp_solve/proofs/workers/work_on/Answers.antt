use Rattle.std.proofs.Common.{◌≡◌, true}
use Rattle.std.proofs.lemmas.List.Elements.{All-weaker}
use Rattle.crp_solve.specs.Groups.{StopsBy}
use Rattle.crp_solve.proofs.Halves.{together_at}
use Rattle.crp_solve.proofs.Joining.{every_place}
use Rattle.crp_solve.proofs.workers.work_on.Goals as goal

pub returns-then-first-clause-places : goal.returns-then-first-clause-places
returns-then-first-clause-places g c ok = let s = c.requires.start in (every_place c.work.result.places c.args.first.places c.args.pool (c.work.ensures.same.places ok) s.places.0, s.places.1)

pub returns-in_default-clause-places : goal.returns-in_default-clause-places
returns-in_default-clause-places g c ok = let s = c.requires.start in (every_place c.work-in_default.result.places c.args.first.places c.args.pool (c.work-in_default.ensures.same.places ok) s.places.0, s.places.1)

pub returns-clause-words : goal.returns-clause-words
returns-clause-words g c = let w = c.joined-left.ensures.all in together_at c.args.common.now.of _ c.run_all-all.result w.ready c.run_all-all.ensures.together

pub returns-clause-stops : goal.returns-clause-stops
returns-clause-stops g c may =
    let M = g.G.Gate.may_stop c.args.outside.now.gate.now in
    c.run_all-all.ensures.stops (All-weaker (StopsBy (c.args.first.stopped ≡ true)) (StopsBy M) (λ x stops yes. may (stops yes)) _ c.joined-left.ensures.stops)
