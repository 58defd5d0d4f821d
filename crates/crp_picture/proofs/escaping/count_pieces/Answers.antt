use Rattle.std.proofs.Common.{length, ap, arith}
use Rattle.bstr.specs.Utf8.{pieces}
use Rattle.crp_picture.proofs.Cutting.{some_left, none_left, counted_first, counted_none}
use Rattle.crp_picture.proofs.escaping.count_pieces.Goals as goal

pub loop-rest-preserved : goal.loop-rest-preserved
loop-rest-preserved c =
    let some = some_left c.loop-rest.rest.now c.is_empty.result c.is_empty.ensures c.loop-rest-test.true in
    let first = counted_first c.loop-rest.rest.now some in
    let left = ap (λ l. length (pieces l)) c.first_piece.ensures.behind in
    record { all = omega (arith, first, left); room = omega (arith, some) }

pub returns : goal.returns
returns c = let none = counted_none c.loop-rest.rest.now (none_left c.loop-rest.rest.now c.is_empty.result c.is_empty.ensures c.loop-rest-test.false) in omega (arith, none)
