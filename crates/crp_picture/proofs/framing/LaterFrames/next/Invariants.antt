-- The moves so far begin no frame, and are made.
use Rattle.std.proofs.Common.{◌≡◌, ◌+◌, drop}
use Rattle.crp_picture.specs.Frames.{frames_from}
use Rattle.crp_picture.proofs.framing.LaterFrames.next.Given as goal

abbrev pub invariant-loop-i : goal.invariant-loop-i
invariant-loop-i l = frames_from (l.i + 1) l.rows.items (drop l.i l.moves) ≡ l.fn.self
