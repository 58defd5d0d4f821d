use Rattle.std.proofs.Common.{◌+◌}
use Rattle.crp_thinning.proofs.Following.{goes_on, stays_refused}
use Rattle.crp_thinning.proofs.follower.Follower.follow_all.Goals as goal

pub returns-then-not-follow-clause-takes : goal.returns-then-not-follow-clause-takes
returns-then-not-follow-clause-takes c =
    let i = c.loop-symbol.symbol-index in
    stays_refused c.args.self.now c.follow.new.self c.args.symbols.now (i + 1) c.if-not-follow.ensures.refused
    (goes_on c.args.self.now c.loop-symbol.self c.follow.new.self c.args.symbols.now i c.loop-symbol-test.true c.loop-symbol.invariant c.follow.ensures.takes)
