use Rattle.std.proofs.Common.{◌≡◌, ◌≤◌, length, false}
use Rattle.crp_places.specs.Segments.{behind_terminator}
use Rattle.crp_places.proofs.segments.after_segment.Given as goal

abbrev pub invariant-loop-rest : goal.invariant-loop-rest
invariant-loop-rest l =
    (behind_terminator l.signs l.is_released l.rest ≡ behind_terminator l.signs false l.text) × (length l.rest ≤ length l.text)

abbrev pub decreases-loop-rest : goal.decreases-loop-rest
decreases-loop-rest l = length l.rest
