use Rattle.std.proofs.Common.{◌≡◌, true, false, [], inr, refl, sym, subst}
use Rattle.std.proofs.lemmas.List.{append-nil}
use Rattle.crp_checker.specs.Fed.{HasRead}
use Rattle.crp_checker.proofs.Taken.{fed_since, taken_on}
use Rattle.crp_checker.proofs.unread.feed_some.Goals as goal

pub returns-then-not-branch-clause-fed : goal.returns-then-not-branch-clause-fed
returns-then-not-branch-clause-fed g c =
    let end = c.in_ok-fill.ensures.end c.if-not-branch.true in (
      [],
      c.in_ok-fill.ensures.same,
      record {
        read = λ wanted bytes has. subst (λ l. HasRead wanted l c.args.checker.now) (sym (append-nil bytes)) has;
        on = λ e. let f : ◌≡◌ false true = e in cc;
        ended = λ e. inr (refl, refl, end.1, end.0);
      },
    )

pub returns-in-Ok-clause-fed : goal.returns-in-Ok-clause-fed
returns-in-Ok-clause-fed g c =
    let (text, took, fed) = c.in-Ok.ensures.fed in
    let same = c.in_ok-fill.ensures.same in
    let (left, is) = same.some in
    let has = c.in_ok-fill.ensures.more c.if-not-branch.false in
    (text, taken_on _ _ _ _ _ _ [] text same (took _ left is), fed_since c.args.unread.now c.fill.new.self c.feed.new.self text _ _ _ _ _ has fed)
