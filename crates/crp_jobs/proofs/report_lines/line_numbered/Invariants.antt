-- So many lines are passed.
use Rattle.std.proofs.Common.{◌≡◌, ◌+◌, ◌-◌, ℕ}
use Rattle.std.specs.Prelude.{slice_get}
use Rattle.crp_follow.specs.Lines.{pieces_of}
use Rattle.crp_jobs.proofs.report_lines.line_numbered.Given as goal

abbrev pub invariant-loop : goal.invariant-loop
invariant-loop l = (k : ℕ) → slice_get (pieces_of l.text) (l.counter - 1 + k) ≡ slice_get (pieces_of l.rest) k
