use Rattle.std.proofs.Common.{refl}
use Rattle.crp_search.specs.Limits.{dealt}
use Rattle.crp_search.specs.FirstMeeting.{same_search}
use Rattle.crp_search.proofs.FirstHeld.{first_plan_met}
use Rattle.crp_search.proofs.searching_first.SeekFirstSeek.finish.Goals as goal

pub returns-clause-met : goal.returns-clause-met
returns-clause-met g c = λ split node here mark. (
  same_search c.args.self.now.count c.args.self.now.reasons.thinning,
  first_plan_met (g.L.Limit.problem c.args._limit.now) c.args.self.now.count split c.args.self.now.reasons.thinning.most c.args.self.now.plan c.args.plan (dealt (g.L.Limit.view c.args._limit.now) (g.L.Limit.puts c.args._limit.now)) node
      c.requires.problem c.requires.ready c.requires.whole c.requires.below here mark,
  refl,
)
