use Rattle.std.proofs.Common.{◌≡◌, ◌≤◌, ◌+◌, length}
use Rattle.crp_places.specs.Lines.{line_ends_before, line_of}
use Rattle.crp_places.proofs.lines.line_at.Given as goal

abbrev pub invariant-loop-rest : goal.invariant-loop-rest
invariant-loop-rest l = (l.line + line_ends_before l.rest l.left ≡ line_of l.text l.fn.offset) × (l.line + length l.rest ≤ length l.text + 1)

abbrev pub decreases-loop-rest : goal.decreases-loop-rest
decreases-loop-rest l = length l.rest
