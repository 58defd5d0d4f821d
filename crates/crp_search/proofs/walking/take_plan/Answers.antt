use Rattle.std.proofs.Common.{sym, ap, refl}
use Rattle.crp_plan.specs.Plans.{ProblemPath}
use Rattle.crp_tree.specs.Mark.{B}
use Rattle.crp_search.proofs.walking.take_plan.Goals as goal

pub returns-clause-met : goal.returns-clause-met
returns-clause-met g c = λ split s.
    rw c.requires.problem (c.finish.ensures.met split (record { path = c.args.path.now; place = s; mark = B }) (ap (λ (r : ProblemPath). r.path) (sym c.in-Ok.ensures.value)) refl)
