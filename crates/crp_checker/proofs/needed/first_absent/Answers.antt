use Rattle.std.proofs.Common.{All, Contains, subst}
use Rattle.std.proofs.lemmas.List.{take_all}
use Rattle.std.proofs.lemmas.List.Elements.{All-more}
use Rattle.crp_checker.proofs.needed.first_absent.Goals as goal

pub loop-i-preserved : goal.loop-i-preserved
loop-i-preserved c =
    All-more (Contains c.args.held.now) c.args.wanted.now c.loop-i.i c.index-wanted-i.result c.loop-i-test.true c.loop-i.invariant (subst (Contains c.args.held.now) c.index-wanted-i.is (c.is_held.ensures.0 c.if-not-is_held.false))

pub returns-clause-none : goal.returns-clause-none
returns-clause-none c = subst (All (Contains c.args.held.now)) (take_all c.loop-i.i c.args.wanted.now c.loop-i-test.false) c.loop-i.invariant
