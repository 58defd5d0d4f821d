use Rattle.crp_search.proofs.FirstMet.{first_met}
use Rattle.crp_search.proofs.searching_first.search_first.Goals as goal

pub returns-clause-cuts : goal.returns-clause-cuts
returns-clause-cuts g c =
    let so_far = c.in_ok-part.ensures.met.1 in
    let met = first_met c.args.count c.walk.new.seek.plan c.in_ok-part.part c.in_ok-part.ensures.problem c.in_ok-part.ensures.name c.in_ok-part.ensures.part so_far.held in met.own.meet

pub returns-clause-look_ahead : goal.returns-clause-look_ahead
returns-clause-look_ahead g c =
    let so_far = c.in_ok-part.ensures.met.1 in
    let met = first_met c.args.count c.walk.new.seek.plan c.in_ok-part.part c.in_ok-part.ensures.problem c.in_ok-part.ensures.name c.in_ok-part.ensures.part so_far.held in met.own.look_ahead

pub returns-clause-branches : goal.returns-clause-branches
returns-clause-branches g c =
    let so_far = c.in_ok-part.ensures.met.1 in
    let met = first_met c.args.count c.walk.new.seek.plan c.in_ok-part.part c.in_ok-part.ensures.problem c.in_ok-part.ensures.name c.in_ok-part.ensures.part so_far.held in met.own.below

pub returns-clause-first : goal.returns-clause-first
returns-clause-first g c =
    let so_far = c.in_ok-part.ensures.met.1 in
    let met = first_met c.args.count c.walk.new.seek.plan c.in_ok-part.part c.in_ok-part.ensures.problem c.in_ok-part.ensures.name c.in_ok-part.ensures.part so_far.held in met.first

pub returns-clause-none : goal.returns-clause-none
returns-clause-none g c =
    let so_far = c.in_ok-part.ensures.met.1 in
    let met = first_met c.args.count c.walk.new.seek.plan c.in_ok-part.part c.in_ok-part.ensures.problem c.in_ok-part.ensures.name c.in_ok-part.ensures.part so_far.held in met.none
