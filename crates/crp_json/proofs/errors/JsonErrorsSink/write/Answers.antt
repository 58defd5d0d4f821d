use Rattle.crp_json.proofs.Telling.{told_on}
use Rattle.crp_json.proofs.errors.JsonErrorsSink.write.Goals as goal

pub invariant_of-self : goal.invariant_of-self
invariant_of-self g c =
    let was = c.self.inside in
    let answered = c.answer_to-answer in
    told_on was.is_json g.B.Begun.held (g.S.Sink.contents was.out) (g.S.Sink.contents answered.new.out) was.failed c.count-self-inside.result answered.result
    was.lines.complete answered.new.lines.complete was.lines.line.items answered.new.lines.line.items c.args.piece.now c.self.invariant answered.ensures.answer c.count-self-inside.ensures
