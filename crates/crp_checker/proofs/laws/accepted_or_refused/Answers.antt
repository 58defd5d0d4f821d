use Rattle.crp_checker.proofs.SameText.{not_both, one_shown, one_refusal}
use Rattle.crp_checker.proofs.laws.accepted_or_refused.Goals as goal

pub returns : goal.returns
returns c = record { apart = not_both; one_verdict = one_shown; one_refusal = one_refusal }
