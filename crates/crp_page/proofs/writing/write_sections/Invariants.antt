-- The sections so far are written.
use Rattle.std.proofs.Common.{◌≤◌, map, take}
use Rattle.crp_plan.specs.Devices.{most_interruptions}
use Rattle.crp_follow.specs.Views.{bay_followed}
use Rattle.crp_page.specs.Numbered.{numbered_text}
use Rattle.crp_page.specs.Sections.{section}
use Rattle.crp_page.specs.Writing.{sink_now, Writes}
use Rattle.crp_page.proofs.writing.write_sections.Given as goal

abbrev pub invariant-loop-i : goal.invariant-loop-i
invariant-loop-i g l = record {
  wrote : Writes (numbered_text (section l.sizes l.ship) 1 (map bay_followed (take l.i l.bays)))
      (sink_now (g.W.Sink.contents l.initial.sink) (g.W.Sink.failures l.initial.sink) (g.W.Sink.interrupted l.initial.sink) l.initial.interruptions)
      (sink_now (g.W.Sink.contents l.sink) (g.W.Sink.failures l.sink) (g.W.Sink.interrupted l.sink) l.interruptions);
  passed : l.interruptions ≤ most_interruptions;
}
