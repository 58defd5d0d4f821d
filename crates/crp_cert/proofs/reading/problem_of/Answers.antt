use Rattle.std.proofs.Common.{◌∙◌}
use Rattle.crp_plan.specs.Faults.{stacks_of}
use Rattle.crp_plan.proofs.Tallies.{length-stacks_of}
use Rattle.crp_cert.proofs.Stacks.{problem_is}
use Rattle.crp_cert.proofs.reading.problem_of.Goals as goal

pub unreachable-requires : goal.unreachable-requires
unreachable-requires c =
    let yes =
    c.in-Err.ensures.accepted.1 (problem_is c.args.size c.args.heights.now (stacks_of c.args.stacks.now) c.requires.size c.requires.heights c.requires.first (length-stacks_of c.args.stacks.now ∙ c.requires.all)) in cc
