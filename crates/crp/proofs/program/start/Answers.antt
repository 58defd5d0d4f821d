use Rattle.std.proofs.Common.{◌≡◌, ◌&&◌, ℕ, Bool, List, inl, map, ap, ◌∙◌, subst}
use Rattle.crp_report.specs.Runs.{SinkSeen, sink_seen}
use Rattle.crp_commands.specs.Performing.{JobSeen, job_seen}
use Rattle.crp_words.specs.Endings.{ProgramEnds}
use Rattle.crp.specs.declared.program.TheConstants.{AWAITED}
use Rattle.crp.specs.Running.{SaysIf, are_none}
use Rattle.crp.proofs.program.start.Goals as goal

pub returns : goal.returns
returns g c =
    let said : SinkSeen = sink_seen g.E.Sink.contents g.E.Sink.failures c.args.streams.now.errors c.say_if.new.errors in
    let rest : SinkSeen = sink_seen g.E.Sink.contents g.E.Sink.failures c.say_if.new.errors c.run_words.new.streams.errors in
    let seen : JobSeen = job_seen g.F.Files.known g.F.Files.failures g.R.Source.remaining g.R.Source.failures g.W.Sink.contents g.W.Sink.failures c.args.files.now c.run_words.new.files c.args.streams.now c.run_words.new.streams in
    inl (record {
      between = g.E.Sink.contents c.say_if.new.errors;
      failures = g.E.Sink.failures c.say_if.new.errors;
      front = subst (λ (asked : Bool). SaysIf asked AWAITED.now said)
          (c.is_told.ensures ∙ ap (λ texts. c.args.is_awaited && are_none (map (λ text. text.now) texts)) c.deref.ensures.value ∙ ap (λ (words : List (List ℕ)). c.args.is_awaited && are_none words) c.in-Ok.ensures)
          c.say_if.ensures;
      rest = subst (λ (words : List (List ℕ)). ProgramEnds words seen rest c.run_words.result) (ap (map (λ text. text.now)) c.deref-2.ensures.value ∙ c.in-Ok.ensures) c.run_words.ensures;
    })
