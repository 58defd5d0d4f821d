use Rattle.std.proofs.Common.{None}
use Rattle.std.proofs.lemmas.Result.{IfOk-weaker, IfErr-weaker}
use Rattle.crp_checker.specs.declared.verdict.Verdict.TheVariants.{Optimal}
use Rattle.crp_callers.specs.SmallBay.{lines, small, script_lines}
use Rattle.crp_callers.proofs.Plain.{left_of}
use Rattle.crp_callers.proofs.SmallClaims.{small_shows}
use Rattle.crp_callers.proofs.verdicts.check_small.Goals as goal

pub returns-clause-shown : goal.returns-clause-shown
returns-clause-shown c =
    IfOk-weaker c.check.result _ _ (λ verdict is. c.accepted_or_refused.ensures.one_verdict None (lines script_lines) verdict (Optimal 2) is (small_shows (c.begins_somewhere.ensures small)))
    c.check.ensures.accepted

pub returns-clause-refused : goal.returns-clause-refused
returns-clause-refused c =
    let shows = small_shows (c.begins_somewhere.ensures small) in
    IfErr-weaker c.check.result _ _ (λ refused is. left_of (c.accepted_or_refused.ensures.apart None (lines script_lines) shows.0 refused shows.1) is) c.check.ensures.refused
