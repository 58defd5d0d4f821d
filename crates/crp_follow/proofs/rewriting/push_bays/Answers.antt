use Rattle.std.proofs.Common.{◌≡◌, ◌∙◌, ℕ, ◌+◌, ap, cond, sym, subst, arith}
use Rattle.crp_said.specs.Said.{is_settled}
use Rattle.crp_follow.proofs.RewritingSteps.{SoFar, none_rewritten, rewritten_more, few_moves_at}
use Rattle.crp_follow.proofs.rewriting.push_bays.Goals as goal
use Rattle.crp_follow.proofs.rewriting.push_bays.Goals.{then-branch, else-branch}

pub loop-bay-init : goal.loop-bay-init
loop-bay-init c = none_rewritten c.args.bays.now c.args.text.now.items

pub push_bay-requires : goal.push_bay-requires
push_bay-requires c = record { few = few_moves_at c.args.bays.now c.loop-bay.bay-index c.bay-item.result c.requires.few c.loop-bay-test.true c.bay-item.is }

plus_none : (n : ℕ) → n + 0 ≡ n
plus_none n = omega arith

pub loop-bay-preserved : goal.loop-bay-preserved
loop-bay-preserved c =
    let found = c.in_ok-push_bay.ensures in
    let s = found.0 in
    let more = rewritten_more c.args.bays.now c.loop-bay.bay-index c.bay-item.result s c.args.text.now.items c.loop-bay.text.items c.push_bay.new.text.items c.loop-bay.decided c.loop-bay-test.true
    c.bay-item.is c.loop-bay.invariant found.1 found.3 in
    let counted : (k : ℕ) → c.loop-bay.decided + cond (is_settled s.said) 1 0 ≡ k → SoFar c.args.bays.now (c.loop-bay.bay-index + 1) c.args.text.now.items c.push_bay.new.text.items k =
    λ k e. subst (SoFar c.args.bays.now (c.loop-bay.bay-index + 1) c.args.text.now.items c.push_bay.new.text.items) e more in
    elim c.if-branch.branch [
      | then-branch w ↦ counted c.if-branch.decided (ap (λ t. c.loop-bay.decided + cond t 1 0) (sym found.2 ∙ w.if-branch.true) ∙ sym w.decided-is)
      | else-branch w ↦ counted c.if-branch.decided (ap (λ t. c.loop-bay.decided + cond t 1 0) (sym found.2 ∙ w.if-branch.false) ∙ plus_none c.loop-bay.decided ∙ sym w.decided-is)
    ]
