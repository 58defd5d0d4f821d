use Rattle.crp_tree.specs.Parts.{nodes_of}
use Rattle.crp_search.proofs.SoFar.{cuts_close, cuts_need, branches_below}
use Rattle.crp_search.proofs.searching.search.Goals as goal

pub returns-in-Ok-clause-cuts : goal.returns-in-Ok-clause-cuts
returns-in-Ok-clause-cuts g c =
    let so_far = c.in-Ok.ensures.met.1 in
    cuts_close (g.L.Limit.view c.walk.new.limit).refused (g.L.Limit.view c.args.limit.now).seen (g.L.Limit.view c.walk.new.limit).seen (nodes_of c.in-Ok.part) so_far.along

pub returns-in-Ok-clause-look_ahead : goal.returns-in-Ok-clause-look_ahead
returns-in-Ok-clause-look_ahead g c =
    let so_far = c.in-Ok.ensures.met.1 in
    cuts_need (g.L.Limit.view c.walk.new.limit).refused (g.L.Limit.view c.args.limit.now).seen (g.L.Limit.view c.walk.new.limit).seen (nodes_of c.in-Ok.part) so_far.along

pub returns-in-Ok-clause-branches : goal.returns-in-Ok-clause-branches
returns-in-Ok-clause-branches g c =
    let so_far = c.in-Ok.ensures.met.1 in
    branches_below (g.L.Limit.view c.walk.new.limit).refused (g.L.Limit.view c.args.limit.now).seen (g.L.Limit.view c.walk.new.limit).seen (nodes_of c.in-Ok.part) so_far.along
