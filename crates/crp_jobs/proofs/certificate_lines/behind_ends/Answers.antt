use Rattle.std.proofs.Common.{◌∙◌, ◌+◌, ◌∷◌, ◌++◌, length, ap, arith, length-append}
use Rattle.crp_jobs.proofs.CertificateSteps.{ends_none, ends_step, line_less}
use Rattle.crp_jobs.proofs.certificate_lines.behind_ends.Goals as goal

pub returns-in_default-clause-there : goal.returns-in_default-clause-there
returns-in_default-clause-there c = c.loop-left.invariant.there ∙ ends_none c.loop-left.left c.loop-left.rest.now c.loop-left-test.true c.in_default.ensures.none

pub loop-left-preserved : goal.loop-left-preserved
loop-left-preserved c =
    let inv = c.loop-left.invariant in
    let rest = c.loop-left.rest.now in
    let line = c.in-Some.line.now in
    let behind = c.in-Some.behind.now in
    let found = c.in-Some.ensures.found in
    let less = line_less rest line behind found.0 found.1 in
    let size = ap (λ t. length t) found.0 ∙ length-append line (10 ∷ behind) in
    record {
      there = inv.there ∙ ends_step c.loop-left.left c.left_behind-left.result rest line behind c.loop-left-test.true found.0 found.1 c.left_behind-left.ensures;
      passed = omega (arith, inv.passed, less);
      few = omega (arith, inv.few, size);
    }
