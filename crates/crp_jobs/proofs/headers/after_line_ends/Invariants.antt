use Rattle.std.proofs.Common.{◌≡◌, ◌≤◌, length}
use Rattle.edi_text.specs.Reading.{after_line_ends}
use Rattle.crp_jobs.proofs.headers.after_line_ends.Given as goal

abbrev pub invariant-loop-rest : goal.invariant-loop-rest
invariant-loop-rest l = (after_line_ends l.rest ≡ after_line_ends l.text) × (length l.rest ≤ length l.text)

abbrev pub decreases-loop-rest : goal.decreases-loop-rest
decreases-loop-rest l = length l.rest
