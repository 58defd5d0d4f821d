use Rattle.crp_chains.proofs.Blockers.{member_refused}
use Rattle.crp_thinning.proofs.finding.blockers_of.Goals as goal

pub returns-in_default-clause-none : goal.returns-in_default-clause-none
returns-in_default-clause-none c chain e each =
    member_refused c.args.track.now.place c.args.ranks.now c.loop-rank.rank-index c.loop-rank-test.true (λ b own blocks. c.in_default.ensures.none b own blocks) chain e each
