use Rattle.std.proofs.Common.{◌≡◌, ◌++◌, [], Result, Err, length, ap, arith, length-append}
use Rattle.crp_plan.proofs.Interruptions.{no_transfer, transfers_on}
use Rattle.crp_plan.specs.declared.transfer.ReadFault.{ReadFault}
use Rattle.std.proofs.lemmas.Result.{err_from_is_err_and}
use Rattle.crp_checker.proofs.Taken.{none_taken, taken_on, too_long_since, whole_taken}
use Rattle.crp_checker.proofs.Watching.{nothing_unended}
use Rattle.crp_checker.proofs.unread.feed_next.Goals as goal

same_fault : {T : Type 0} (x y : ReadFault) → ◌≡◌ {A = Result T ReadFault} (Err x) (Err y) → x ≡ y
same_fault x y e = cc

pub loop-unread-init : goal.loop-unread-init
loop-unread-init g c =
    let (left, is) = c.requires.some in
    record {
      text = [];
      taken = none_taken _ c.args.unread left is;
      read = λ wanted has. has;
      unended = nothing_unended;
      begun = λ e. c.requires.more;
      transfers = no_transfer _ _ _ c.requires.passed;
    }

pub loop-unread-preserved : goal.loop-unread-preserved
loop-unread-preserved g c =
    let o = c.loop-unread.invariant in
    let (more, took, fed) = c.in_ok-feed_some.ensures.fed in
    let on = fed.on c.if-branch.true in
    record {
      text = o.text ++ more;
      taken = taken_on _ _ _ _ _ _ o.text more o.taken took;
      read = λ wanted has. fed.read wanted o.text (o.read wanted has);
      unended = on.1 o.text o.unended;
      begun = λ e. absurd (omega (arith, on.0, length-append o.text more, ap length e));
      transfers = transfers_on o.transfers c.in_ok-feed_some.ensures.done;
    }

pub returns-clause-fed : goal.returns-clause-fed
returns-clause-fed g c =
    let o = c.loop-unread.invariant in
    let (more, took, fed) = c.in_ok-feed_some.ensures.fed in (
      o.text ++ more,
      whole_taken _ _ _ _ _ _ o.text more _ _ _ _ _ o.taken took o.unended o.begun fed c.if-branch.false,
      λ wanted has. fed.read wanted o.text (o.read wanted has),
    )

pub returns-in_err-feed_some-clause-large : goal.returns-in_err-feed_some-clause-large
returns-in_err-feed_some-clause-large g c =
    let o = c.loop-unread.invariant in
    let p = err_from_is_err_and c.from_residual.result c.from_residual.ensures.1 in
    rw (p.1, p.2) (λ e. too_long_since _ _ _ _ o.text o.taken (c.in_err-feed_some.ensures.large (ap Err (same_fault _ _ e))))
