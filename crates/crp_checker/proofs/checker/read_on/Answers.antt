use Rattle.std.proofs.Common.{List, ℕ, ◌++◌, length, take, sym, ap, subst, arith}
use Rattle.std.specs.Option.{option_copied}
use Rattle.std.proofs.lemmas.List.{take_all}
use Rattle.std.proofs.lemmas.Result.{IfOk-weaker}
use Rattle.crp_checker.specs.Stages.{HasCome}
use Rattle.crp_checker.proofs.Concluded.{more_after, faulty_on}
use Rattle.crp_checker.proofs.checker.read_on.Goals as goal

pub returns-in-Head-clause-come : goal.returns-in-Head-clause-come
returns-in-Head-clause-come c =
    IfOk-weaker c.read_on.result _ _ (λ next come before at. come before (subst (HasCome (option_copied c.args.wanted) before) c.in-Head.is at)) c.read_on.ensures.come

pub returns-in-Ended-clause-come : goal.returns-in-Ended-clause-come
returns-in-Ended-clause-come c before at =
    let bytes : List ℕ = c.args.bytes.now in
    let same = ap length (take_all (length bytes) bytes (omega arith)) in
    let some = c.requires in
    let findings = c.in-Ended.findings in
    subst (HasCome (option_copied c.args.wanted) (before ++ take (length bytes) bytes)) (sym c.faulty.ensures)
    (more_after (option_copied c.args.wanted) before (take (length bytes) bytes) findings c.saturating_add-line.result (subst (HasCome (option_copied c.args.wanted) before) c.in-Ended.is at) (omega arith) c.saturating_add-line.ensures)

pub returns-in-Faulty-clause-come : goal.returns-in-Faulty-clause-come
returns-in-Faulty-clause-come c before at = faulty_on before _ c.in-Faulty.bay c.in-Faulty.fault (subst (HasCome (option_copied c.args.wanted) before) c.in-Faulty.is at)
