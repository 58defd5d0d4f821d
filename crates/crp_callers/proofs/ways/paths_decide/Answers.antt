use Rattle.std.proofs.Common.{ap}
use Rattle.crp_bounds.specs.Bounds.{blocking}
use Rattle.crp_callers.proofs.ways.paths_decide.Goals as goal

pub returns-clause-blocking : goal.returns-clause-blocking
returns-clause-blocking c = λ p path s t is one other. ap blocking (c.path_decides.ensures.position p path s t is one other)

pub returns-clause-wrong : goal.returns-clause-wrong
returns-clause-wrong c = λ p rows fault other is wrong also. c.one_fault.ensures.path p rows fault other is wrong also
