use Rattle.std.proofs.Common.{◌≡◌, ◌≤◌, ◌-◌, length}
use Rattle.crp_places.specs.Segments.{behind_segments}
use Rattle.crp_places.proofs.segments.segment_at.Given as goal

abbrev pub invariant-loop : goal.invariant-loop
invariant-loop l = (behind_segments l.signs l.initial.rest (l.counter - 1) ≡ l.rest) × (length l.rest ≤ length l.text)
