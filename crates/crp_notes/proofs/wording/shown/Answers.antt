use Rattle.std.proofs.Common.{sym, arith}
use Rattle.std.proofs.lemmas.List.{length-take-le, take_all}
use Rattle.crp_notes.proofs.wording.shown.Goals as goal

pub slice_bounds-result-end : goal.slice_bounds-result-end
slice_bounds-result-end c = sym (length-take-le 35 c.args.name.now (omega (arith, c.if-name-gt35.true)))

pub returns-else-name-gt35-clause-front : goal.returns-else-name-gt35-clause-front
returns-else-name-gt35-clause-front c = sym (take_all 35 c.args.name.now c.if-name-gt35.false)
