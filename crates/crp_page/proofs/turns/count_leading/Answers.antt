use Rattle.std.proofs.Common.{◌∙◌, sym}
use Rattle.crp_page.proofs.Walking.{one_leads, none_leads, all_led}
use Rattle.crp_page.proofs.turns.count_leading.Goals as goal

pub loop-i-preserved : goal.loop-i-preserved
loop-i-preserved c =
    one_leads c.args.number c.args.moves.now c.loop-i.i c.index-moves-i.result c.loop-i-test.true c.index-moves-i.is c.loop-i.invariant (sym c.is_turn.ensures ∙ c.if-not-is_turn.false)

pub returns-then-not-is_turn-clause-value : goal.returns-then-not-is_turn-clause-value
returns-then-not-is_turn-clause-value c =
    none_leads c.args.number c.args.moves.now c.loop-i.i c.index-moves-i.result c.loop-i-test.true c.index-moves-i.is c.loop-i.invariant (sym c.is_turn.ensures ∙ c.if-not-is_turn.true)

pub returns-clause-value : goal.returns-clause-value
returns-clause-value c = all_led c.args.number c.args.moves.now c.loop-i.i c.loop-i-test.false c.loop-i.invariant
