use Rattle.crp_search.specs.Limits.{dealt}
use Rattle.crp_search.proofs.SoFar.{go_on_met}
use Rattle.crp_search.proofs.searching.SeekFewestSeek.go_on.Goals as goal

pub returns-clause-met : goal.returns-clause-met
returns-clause-met g c = λ split node stands on. (
  c.go_on.ensures.thinning,
  go_on_met (g.L.Limit.problem c.args.limit.now) split c.args.self.now.reasons.thinning.most c.in_ok-way.way (dealt (g.L.Limit.view c.args.limit.now) (g.L.Limit.puts c.args.limit.now))
      (dealt (g.L.Limit.view c.go_on.new.limit) (g.L.Limit.puts c.go_on.new.limit)) node c.in_ok-way.ensures.way c.go_on.ensures.same.2 stands on,
)
