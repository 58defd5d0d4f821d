use Rattle.crp_checker.proofs.Onward.{opens}
use Rattle.crp_checker.proofs.symbol.judge.Goals as goal

pub returns-in_ok-push-in-X-clause-owed : goal.returns-in_ok-push-in-X-clause-owed
returns-in_ok-push-in-X-clause-owed c above within alone =
    rw c.in-X.is (opens c.args.row above c.args.path.now.items c.push.new.self.items c.args.place.now c.enter.new.place within alone c.in_ok-push-in-X.ensures.items c.enter.ensures.place c.enter.ensures.back)
