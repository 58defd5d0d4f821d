use Rattle.crp_picture.specs.Names.{label_piece}
use Rattle.crp_picture.proofs.Cutting.{some_left, none_left, each_none, labelled, labelled_more, all_added}
use Rattle.crp_picture.proofs.escaping.push_label_pieces.Goals as goal

pub loop-rest-preserved : goal.loop-rest-preserved
loop-rest-preserved c =
    let rest = c.loop-rest.rest.now in
    let first = c.first_piece-c in
    labelled_more c.args.text.now.items c.loop-rest.text.items c.push_label_piece.new.text.items c.args.name.now rest first.result.2.now first.result.0
    (some_left rest c.is_empty.result c.is_empty.ensures c.loop-rest-test.true) first.ensures.character first.ensures.behind c.loop-rest.invariant c.in_ok-push_label_piece.ensures

pub returns : goal.returns
returns c =
    let rest = c.loop-rest.rest.now in
    all_added c.args.text.now.items c.loop-rest.text.items (labelled c.args.name.now) (labelled rest) c.loop-rest.invariant
    (each_none (λ p. label_piece p.char) rest (none_left rest c.is_empty.result c.is_empty.ensures c.loop-rest-test.false))
