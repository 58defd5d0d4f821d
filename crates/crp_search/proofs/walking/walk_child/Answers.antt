use Rattle.std.proofs.Common.{sym}
use Rattle.crp_search.proofs.Closing.{closes_from, gives_none}
use Rattle.crp_search.proofs.walking.walk_child.Goals as goal

pub returns-clause-closes : goal.returns-clause-closes
returns-clause-closes g c =
    let kept = c.in_ok-put.ensures.kept c.if-put.false in
    closes_from _ _ c.close_child.ensures.closes
    (λ rows met later. rw (sym c.give.ensures.same.2, sym kept.0) later)
    (λ rows end later. rw (sym c.give.ensures.same.2, sym kept.0) later)

pub returns-clause-given : goal.returns-clause-given
returns-clause-given g c =
    let kept = c.in_ok-put.ensures.kept c.if-put.false in
    gives_none _ c.close_child.ensures.closes c.args.given.now.items c.give.new.given.items kept.1
