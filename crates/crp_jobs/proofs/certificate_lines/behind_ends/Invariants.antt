-- So many lines are passed.
use Rattle.std.proofs.Common.{◌≡◌, ◌≤◌, ◌+◌, length}
use Rattle.crp_follow.specs.Lines.{pieces_of}
use Rattle.crp_jobs.specs.CertificateLines.{behind_ends}
use Rattle.crp_jobs.proofs.certificate_lines.behind_ends.Given as goal

abbrev pub invariant-loop-left : goal.invariant-loop-left
invariant-loop-left l = record {
  there : behind_ends l.ends (pieces_of l.text) ≡ behind_ends l.left (pieces_of l.rest);
  passed : l.passed + length (pieces_of l.rest) ≡ length (pieces_of l.text);
  few : l.passed + length l.rest ≤ length l.text;
}

abbrev pub decreases-loop-left : goal.decreases-loop-left
decreases-loop-left l = length l.rest
