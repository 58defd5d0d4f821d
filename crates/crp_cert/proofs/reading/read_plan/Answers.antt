use Rattle.std.proofs.Common.{ℕ, List, Option, ap}
use Rattle.crp_plan.specs.Faults.{stacks_of}
use Rattle.crp_cert.specs.Text.{plan_line}
use Rattle.crp_cert.proofs.Settled.{plan_short}
use Rattle.crp_cert.proofs.Readers.{plan_reader, none_stands}
use Rattle.crp_cert.proofs.LinesOfHead.{whole_head}
use Rattle.crp_cert.proofs.reading.read_plan.Goals as goal

pub returns-in_default-clause-none : goal.returns-in_default-clause-none
returns-in_default-clause-none c = none_stands plan_reader c.args.bytes.now (rw c.in_default.is at c.in_ok-plan.ensures)

pub returns-clause-found : goal.returns-clause-found
returns-clause-found c =
    let plan : Option (List ℕ) = c.in-Some.plan in
    let t = plan_reader.takes c.args.bytes.now plan c.in-Some.rest.now (rw c.in-Some.is at c.in_ok-plan.ensures) in
    record {
      line = plan_line plan;
      ends = plan_short plan t.0;
      is = t.1;
      rows = t.0;
      leads = λ before has. whole_head before c.args.claimed c.problem_of-problem.result c.as_slice.result.now (stacks_of c.deref.result.now) plan c.problem_of-problem.ensures c.as_slice.ensures.value (ap stacks_of c.deref.ensures.value) t.0 has;
    }
