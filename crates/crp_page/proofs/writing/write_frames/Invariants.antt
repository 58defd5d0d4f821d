-- The figures of the frames are written up to those that are still to come.
use Rattle.std.proofs.Common.{◌≤◌, length}
use Rattle.std.specs.Prelude.{flat_map}
use Rattle.crp_plan.specs.Devices.{most_interruptions}
use Rattle.crp_page.specs.Sections.{frame_figure}
use Rattle.crp_page.specs.Writing.{sink_now}
use Rattle.crp_page.proofs.Writes.{WritesUpTo}
use Rattle.crp_page.proofs.writing.write_frames.Given as goal

abbrev pub invariant-loop-frame : goal.invariant-loop-frame
invariant-loop-frame g l = record {
  so : WritesUpTo (flat_map (frame_figure l.on l.ship l.bay) l.fn.frames) (flat_map (frame_figure l.on l.ship l.bay) l.rest)
      (sink_now (g.W.Sink.contents l.initial.sink) (g.W.Sink.failures l.initial.sink) (g.W.Sink.interrupted l.initial.sink) l.initial.interruptions)
      (sink_now (g.W.Sink.contents l.sink) (g.W.Sink.failures l.sink) (g.W.Sink.interrupted l.sink) l.interruptions);
  passed : l.interruptions ≤ most_interruptions;
}

abbrev pub decreases-loop-frame : goal.decreases-loop-frame
decreases-loop-frame g l = length l.rest
