use Rattle.std.proofs.Common.{refl}
use Rattle.crp_search.specs.Limits.{dealt}
use Rattle.crp_search.proofs.SoFar.{offer_met}
use Rattle.crp_search.proofs.searching.SeekFewestSeek.finish.Goals as goal

pub returns-clause-met : goal.returns-clause-met
returns-clause-met g c = λ split node here mark. (
  refl,
  offer_met (g.L.Limit.problem c.args.limit.now) split c.args.self.now.reasons.thinning.most (dealt (g.L.Limit.view c.args.limit.now) (g.L.Limit.puts c.args.limit.now))
      (dealt (g.L.Limit.view c.offer_plan.new.limit) (g.L.Limit.puts c.offer_plan.new.limit)) c.args.plan.path node
      c.offer_plan.ensures.seen c.offer_plan.ensures.advances c.offer_plan.ensures.claims.0 c.offer_plan.ensures.same.2 here mark,
)
