use Rattle.crp_checker.proofs.Taken.{too_long, err_at}
use Rattle.crp_checker.proofs.unread.Unread.fill.Goals as goal

pub returns-clause-large : goal.returns-clause-large
returns-clause-large g c = λ e.
    let why = err_at c.more-2.result _ _ e c.more-2.ensures.none in
    too_long _ _ c.args.self.now c.refill.new.self c.in_ok-refill.ensures.same (c.in_ok-refill.ensures.more c.if-self-2.false) why.1
