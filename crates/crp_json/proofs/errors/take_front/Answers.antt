use Rattle.crp_json.proofs.Telling.{taken_ended, taken_plain}
use Rattle.crp_json.proofs.errors.take_front.Goals as goal

pub returns-in_default-clause-taken : goal.returns-in_default-clause-taken
returns-in_default-clause-taken g c =
    taken_plain c.args.lines.now.complete c.args.lines.now.line.items _ c.args.piece.now (g.S.Sink.contents c.args.out.now) c.in_default.ensures.none c.in_ok-extend_from_slice.ensures.items

pub returns-clause-taken : goal.returns-clause-taken
returns-clause-taken g c =
    let k = c.in-Some in
    let lines = c.args.lines.now in
    let now = c.end_line.new in
    taken_ended lines.complete now.lines.complete lines.line.items now.lines.line.items k.bytes.now k._rest.now c.args.piece.now (g.S.Sink.contents c.args.out.now) (g.S.Sink.contents now.out)
    k.ensures.found.0 k.ensures.found.1 c.in_ok-end_line.ensures.ended.0 c.in_ok-end_line.ensures.ended.1 c.in_ok-end_line.ensures.all
