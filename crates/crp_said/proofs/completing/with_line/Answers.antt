use Rattle.std.proofs.Common.{◌∙◌, ◌+◌, true, false, refl, sym, subst, arith}
use Rattle.crp_said.specs.Spelled.{IsBayLine}
use Rattle.crp_said.specs.Completed.{SaysOfBay}
use Rattle.crp_said.proofs.MoreLines.{no_bay_more, bay_more}
use Rattle.crp_said.proofs.completing.with_line.Goals as goal

pub returns-in-None-clause-more : goal.returns-in-None-clause-more
returns-in-None-clause-more c lines are =
    no_bay_more lines c.args.line.now c.args.tally c.is_ended-ended.result are
    (subst (λ l. ¬ IsBayLine l) c.words_in-words.ensures c.in-None.ensures.none)
    (c.is_ended-ended.ensures lines c.args.line.now c.words_in-words.ensures are.ended)

pub returns-then-is_settled-clause-more : goal.returns-then-is_settled-clause-more
returns-then-is_settled-clause-more c lines are =
    let found = c.in-Some.ensures.found in
    let is : SaysOfBay c.args.line.now c.in-Some.said = (c.in-Some.field-0-0, found.0, found.1, sym c.words_in-words.ensures ∙ found.2) in
    bay_more lines c.args.line.now c.args.tally c.in-Some.said true (c.args.tally.settled + 1) c.is_ended-ended.result are is
    (sym c.is_settled.ensures ∙ c.if-is_settled.true) refl
    (c.is_ended-ended.ensures lines c.args.line.now c.words_in-words.ensures are.ended)

pub returns-else-is_settled-clause-more : goal.returns-else-is_settled-clause-more
returns-else-is_settled-clause-more c lines are =
    let found = c.in-Some.ensures.found in
    let is : SaysOfBay c.args.line.now c.in-Some.said = (c.in-Some.field-0-0, found.0, found.1, sym c.words_in-words.ensures ∙ found.2) in
    bay_more lines c.args.line.now c.args.tally c.in-Some.said false c.args.tally.settled c.is_ended-ended.result are is
    (sym c.is_settled.ensures ∙ c.if-is_settled.false) (omega arith)
    (c.is_ended-ended.ensures lines c.args.line.now c.words_in-words.ensures are.ended)
