use Rattle.std.proofs.Common.{◌≡◌, List, map, rules, subst, IfOk, IfErr}
use Rattle.clap.specs.Words.{Text}
use Rattle.crp_words.specs.Words.{Refuses, WordsAsk}
use Rattle.crp_callers.proofs.Outcomes.{ok_by, err_by}
use Rattle.crp_callers.proofs.Worded.{limit_words, limits_ask, limits_refused}
use Rattle.crp_callers.proofs.words.job_at_limits.Goals as goal

pub returns-clause-sized : goal.returns-clause-sized
returns-clause-sized c =
    let words : map (λ w. w.now) c.as_slice.result.now ≡ limit_words = search rules in
    let asked = subst (λ (ws : List Text). IfOk c.job.result (WordsAsk ws)) words c.job.ensures.asked in
    ok_by c.job.result _ _ asked limits_ask

pub returns-clause-within : goal.returns-clause-within
returns-clause-within c =
    let words : map (λ w. w.now) c.as_slice.result.now ≡ limit_words = search rules in
    let refused = subst (λ (ws : List Text). IfErr c.job.result (Refuses ws)) words c.job.ensures.refused in
    err_by c.job.result _ _ refused limits_refused
