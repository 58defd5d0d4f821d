use Rattle.std.proofs.Common.{◌≡◌, List, map, rules, subst, IfOk}
use Rattle.clap.specs.Words.{Text}
use Rattle.crp_words.specs.Words.{WordsAsk}
use Rattle.crp_callers.proofs.Outcomes.{ok_by}
use Rattle.crp_callers.proofs.Worded.{strong_words, strong_asks}
use Rattle.crp_callers.proofs.words.job_of_strong.Goals as goal

pub returns : goal.returns
returns c =
    let words : map (λ w. w.now) c.as_slice.result.now ≡ strong_words = search rules in
    let asked = subst (λ (ws : List Text). IfOk c.job.result (WordsAsk ws)) words c.job.ensures.asked in
    ok_by c.job.result _ _ asked strong_asks
