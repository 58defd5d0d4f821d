use Rattle.std.proofs.Common.{List, subst}
use Rattle.crp_plan.specs.declared.moves.Move.{Move}
use Rattle.crp_plan.specs.Bay.{path_of}
use Rattle.crp_tree.specs.First.{IsFirstBest}
use Rattle.crp_sizes.specs.Sizes.{heights_at}
use Rattle.crp_order.specs.BayProblems.{problem_of}
use Rattle.crp_said.specs.declared.said.Said.TheVariants.{First}
use Rattle.crp_audit.specs.Headline.{Reported}
use Rattle.crp_audit.specs.LooksTrue.{StatesPlan}
use Rattle.crp_callers.proofs.promised.printed_plan_is_certified.Goals as goal

pub returns-clause-first : goal.returns-clause-first
returns-clause-first c = λ h bay lines certificate count moves is promised printed.
    let b : Reported = record { bay = bay; said = First count; lines = lines; certificate = certificate } in
    let prints = promised.so.0 in
    let one = c.one_plan_is_printed.ensures h b prints.plan.moves moves is prints.plan.printed printed in
    subst (λ (ms : List Move). IsFirstBest (problem_of (heights_at h.yard.sizes bay.0) h.sequence bay.1) (path_of ms)) one prints.first

pub returns-clause-stated : goal.returns-clause-stated
returns-clause-stated c = λ h bay lines certificate count moves is promised printed.
    let b : Reported = record { bay = bay; said = First count; lines = lines; certificate = certificate } in
    let looks = ((c.true_if_it_looks_so.ensures h b).1 promised).so in
    let one = c.one_plan_is_printed.ensures h b looks.0.moves moves is looks.0.printed printed in
    subst (λ (ms : List Move). StatesPlan certificate (path_of ms)) one looks.1
