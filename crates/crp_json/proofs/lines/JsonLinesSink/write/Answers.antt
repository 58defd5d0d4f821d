use Rattle.std.proofs.Common.{option_map}
use Rattle.crp_json.proofs.Showing.{shown_on}
use Rattle.crp_json.proofs.lines.JsonLinesSink.write.Goals as goal

pub invariant_of-self : goal.invariant_of-self
invariant_of-self g c =
    let was = c.self.inside in
    let answered = c.answer_to-answer in
    shown_on was.asked.printed g.B.Begun.held (g.S.Sink.contents was.out) (g.S.Sink.contents answered.new.out) (option_map (λ line. line.items) was.asked.first) was.failed c.count-self-inside.result
    answered.result was.pieces answered.new.pieces c.args.piece.now c.self.invariant answered.ensures.answer c.count-self-inside.ensures
