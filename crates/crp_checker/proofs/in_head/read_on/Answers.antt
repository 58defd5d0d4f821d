use Rattle.std.proofs.Common.{◌++◌, take, sym, subst}
use Rattle.std.specs.Option.{option_copied}
use Rattle.crp_cert.specs.HeadsFed.{HasFed}
use Rattle.crp_checker.specs.Stages.{HasCome}
use Rattle.crp_checker.proofs.Concluded.{head_faulty}
use Rattle.crp_checker.proofs.in_head.read_on.Goals as goal

pub returns-in-Whole-clause-come : goal.returns-in-Whole-clause-come
returns-in-Whole-clause-come c before at =
    let whole = subst (HasFed (before ++ take _ c.args.bytes.now)) c.in-Whole.is (c.in_ok-fed.ensures.fed before at) in
    subst (λ l. HasCome (option_copied c.args.wanted) l c.after_head.result) (sym whole.1) (c.after_head.ensures whole.0)

pub returns-in-Faulty-clause-come : goal.returns-in-Faulty-clause-come
returns-in-Faulty-clause-come c before at =
    head_faulty _ _ _ (subst (HasFed (before ++ take _ c.args.bytes.now)) c.in-Faulty.is (c.in_ok-fed.ensures.fed before at))
