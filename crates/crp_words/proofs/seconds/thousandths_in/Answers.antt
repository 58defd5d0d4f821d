use Rattle.std.proofs.Common.{arith}
use Rattle.std.proofs.lemmas.Str.Pattern.{split_parts}
use Rattle.crp_words.proofs.Thousandths.{none_whole, none_before, none_behind, joined_thousandths}
use Rattle.crp_words.proofs.seconds.thousandths_in.Goals as goal

pub returns-in_err-number-clause-none : goal.returns-in_err-number-clause-none
returns-in_err-number-clause-none c =
    let without = rw c.in_default.is at (split_parts 46 c.args.text.now c.split_once.result c.split_once.ensures.cases (omega arith)) in
    rw c.from_residual.ensures (none_whole c.args.text.now without c.in_err-number.ensures.none)

pub returns-in_err-number-2-clause-none : goal.returns-in_err-number-2-clause-none
returns-in_err-number-2-clause-none c =
    let parts = rw c.in-Some.is at (split_parts 46 c.args.text.now c.split_once.result c.split_once.ensures.cases (omega arith)) in
    rw c.from_residual-in_err-number-2.ensures (none_before c.args.text.now c.in-Some.whole.now c.in-Some.part.now parts.0 parts.1 c.in_err-number-2.ensures.none)

pub returns-in_err-part-clause-none : goal.returns-in_err-part-clause-none
returns-in_err-part-clause-none c =
    let parts = rw c.in-Some.is at (split_parts 46 c.args.text.now c.split_once.result c.split_once.ensures.cases (omega arith)) in
    rw c.from_residual-in_err-part.ensures (none_behind c.args.text.now c.in-Some.whole.now c.in-Some.part.now parts.0 parts.1 c.in_err-part.ensures.none)

pub returns-clause-some : goal.returns-clause-some
returns-clause-some c =
    let parts = rw c.in-Some.is at (split_parts 46 c.args.text.now c.split_once.result c.split_once.ensures.cases (omega arith)) in
    joined_thousandths c.args.text.now c.in-Some.whole.now c.in-Some.part.now c.in_ok-number-2.number c.in_ok-part.part parts.0 c.in_ok-number-2.ensures.some.0 c.in_ok-number-2.ensures.some.1 c.in_ok-part.ensures.some
