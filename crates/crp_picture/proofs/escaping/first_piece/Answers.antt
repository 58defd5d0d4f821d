use Rattle.std.proofs.Common.{length, ap, arith}
use Rattle.std.proofs.lemmas.List.{length-drop}
use Rattle.bstr.proofs.lemmas.PieceLemmas.{size-within}
use Rattle.crp_picture.proofs.Cutting.{first_some}
use Rattle.crp_picture.proofs.escaping.first_piece.Goals as goal

pub split_at-requires : goal.split_at-requires
split_at-requires c = omega (arith, size-within c.args.name.now, c.decode-c.ensures.size)

pub returns-clause-fewer : goal.returns-clause-fewer
returns-clause-fewer c = λ some.
    let first = first_some c.args.name.now some in
    omega (arith, first.0, c.decode-c.ensures.size, ap length c.split_at.ensures.back, length-drop c.decode-c.result.1 c.args.name.now, some)
