use Rattle.std.proofs.Common.{refl, arith, subst, All}
use Rattle.std.proofs.lemmas.List.Elements.{All-more}
use Rattle.std.proofs.lemmas.List.{take_all}
use Rattle.crp_plan.specs.Faults.{stacks_of}
use Rattle.crp_cert.specs.Reading.{IsNewRank}
use Rattle.crp_cert.proofs.ranks.are_new.Goals as goal

pub loop-rank-preserved : goal.loop-rank-preserved
loop-rank-preserved c =
    All-more (IsNewRank c.args.containers c.args.stack.now (stacks_of c.args.stacks.now)) c.args.stack.now c.loop-rank.rank-index 0 c.loop-rank-test.true c.loop-rank.invariant
    (c.is_new.ensures.0 c.if-not-is_new.false)

pub returns : goal.returns
returns c = (
  λ e.
      subst (All (IsNewRank c.args.containers c.args.stack.now (stacks_of c.args.stacks.now))) (take_all c.loop-rank.rank-index c.args.stack.now (omega arith)) c.loop-rank.invariant,
  λ h. refl,
)
