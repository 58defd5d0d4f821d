use Rattle.std.proofs.Common.{inr, refl, map, [], subst}
use Rattle.crp_follow.specs.TextFaults.{IsWrongCount}
use Rattle.crp_follow.specs.Views.{bay_stated, unread_lines}
use Rattle.crp_follow.proofs.Reading.{wrong_count}
use Rattle.crp_follow.proofs.stating.check_last.Goals as goal

pub returns-then-not-are_counted-clause-wrong : goal.returns-then-not-are_counted-clause-wrong
returns-then-not-are_counted-clause-wrong c =
    let last = c.in_ok-line.ensures.last in
    let lines = unread_lines c.args.unread in
    inr (inr (
      c.in_ok-line.line,
      refl,
      subst (IsWrongCount c.args.behind (map bay_stated c.args.bays.now) lines) last.2
          (wrong_count c.args.behind c.args.bays.now lines [] last.0 c.in_ok-line.count c.in_ok-line.settled c.are_counted.result last.1 refl last.3 last.4 last.5 c.are_counted.ensures.few
          c.are_counted.ensures.right c.if-not-are_counted.true),
    ))
