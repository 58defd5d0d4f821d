-- The checker accepts the certificates of true answers, with the verdicts that say the same.
use Rattle.std.proofs.Common.{◌≡◌, ◌≢◌, ℕ, ◌<◌, ◌==◌, Bool, true, false, cond, List, [], ◌∷◌, length, map, Option, Some, None, option_map, refl, sym, ap, subst, arith, inl}
use Rattle.std.specs.List.{AllByRecursion}
use Rattle.std.proofs.lemmas.Bool.{eqb-true, eqb-false}
use Rattle.std.proofs.lemmas.List.Elements.{recursion_from_All}
use Rattle.crp_plan.specs.BayNames.{YardBay, IsYardBay}
use Rattle.crp_plan.specs.Bay.{Problem, IsProblem, cap}
use Rattle.crp_plan.specs.Plans.{ProblemPath}
use Rattle.crp_tree.specs.Claims.{IsAccepted, Claimed, path_in}
use Rattle.crp_tree.specs.Parts.{Certificate, claimed}
use Rattle.crp_cert.specs.declared.script.Script.{Script}
use Rattle.crp_cert.specs.Writing.{script_for, first_script_for, CanBeSpelled}
use Rattle.crp_cert.proofs.Written.{spelled_is_script, first_is_script, claimed_rise}
use Rattle.crp_solve.specs.declared.answer.Answer.{Answer}
use Rattle.crp_solve.specs.declared.answer.Answer.TheVariants as answer
use Rattle.crp_solve.specs.declared.answer.Cause.TheVariants as cause
use Rattle.crp_solve.specs.Chosen.{Chosen}
use Rattle.crp_solve.specs.Solved.{IsSolved}
use Rattle.crp_solve.specs.Answers.{cert_of, count_of, IsBetween, IsTrueAnswer}
use Rattle.crp_solve.proofs.Limits.{count_low}
use Rattle.crp_checker.specs.declared.verdict.Verdict.TheVariants as verdict
use Rattle.crp_checker.specs.AcceptedTexts.{IsAcceptedText}
use Rattle.crp_checker.specs.Verdicts.{IsVerdictOf, IsVerdict}
use Rattle.crp_checker.specs.Files.{IsEnded, BeginsWithTexts}
use Rattle.crp_report.specs.Answered.{Answered, plan_in, said_by}
use Rattle.crp_report.specs.Report.{text_of, certificate_of, certificates_text}
use Rattle.crp_report.specs.Chosen.{RunChosen}
use Rattle.crp_report.specs.Runs.{RunSeen, Made, IsMade}
use Rattle.crp_order.specs.BayProblems.{problems_of}
use Rattle.crp_audit.specs.Headline.{shown_by, verdict_said}
use Rattle.crp_headline.specs.Accepted.{IsAcceptedAs, CanBeWritten}
use Rattle.crp_headline.proofs.Ended.{script_ended}
use Rattle.crp_headline.proofs.Named.{can_be_written}

-- ---- the verdict

-- what a lower bound, the cap and a plan or none show is their verdict
pub shown_is : (lower most : ℕ) (count : Option ℕ) → IsVerdictOf lower most count (shown_by lower most count)
shown_is lower most None = by_test (lower == most) refl
  where
    by_test : (t : Bool) → (lower == most) ≡ t → IsVerdictOf lower most None (cond t verdict.NoPlan (verdict.Bounds lower None))
    by_test true e = (λ s. cc, eqb-true lower most e)
    by_test false e = (λ s. cc, eqb-false lower most e, refl, refl)
shown_is lower most (Some n) = outer (n == lower) refl
  where
    inner : (n ≢ lower) → (t : Bool) → (lower == most) ≡ t → IsVerdictOf lower most (Some n) (cond t verdict.NoPlan (verdict.Bounds lower (Some n)))
    inner apart true e = (λ s. apart (let k : n ≡ lower = cc in k), eqb-true lower most e)
    inner apart false e = (λ s. apart (let k : n ≡ lower = cc in k), eqb-false lower most e, refl, refl)

    outer : (t : Bool) → (n == lower) ≡ t
        → IsVerdictOf lower most (Some n) (cond t (verdict.Optimal lower) (cond (lower == most) verdict.NoPlan (verdict.Bounds lower (Some n))))
    outer true e = (refl, ap Some (eqb-true n lower e))
    outer false e = inner (eqb-false n lower e) (lower == most) refl

-- a bound below the plan is not the plan's count
below_plan : (p : Problem) (lower : ℕ) (plan : Option ProblemPath) → lower < count_of p (path_in plan) → option_map length (path_in plan) ≢ Some lower
below_plan p lower None lt e = cc
below_plan p lower (Some route) lt e = let k : length route.path ≡ lower = cc in omega (arith, k)

-- the relocations of a plan
counts : (plan : Option ProblemPath) → option_map length (path_in plan) ≡ option_map (λ (route : ProblemPath). length route.path) plan
counts None = refl
counts (Some plan) = refl

-- the script whose text it is
abbrev script_of : YardBay → Problem → Answer → Script
script_of bay p (answer.Optimal plan cert) = script_for bay (claimed p cert (Some plan.path))
script_of bay p (answer.First plan cert) = first_script_for bay (claimed p cert (Some plan.path))
script_of bay p (answer.NoPlan cert) = script_for bay (claimed p cert None)
script_of bay p (answer.Between lower cert plan why) = script_for bay (claimed p cert (path_in plan))

-- a bound below the plan is the lower one of two
verdict_below : (p : Problem) (lower : ℕ) (cert : Certificate) (plan : Option ProblemPath) → IsProblem p → IsBetween p lower cert plan → lower < count_of p (path_in plan)
    → IsVerdictOf cert.lower (cap p) (option_map length (path_in plan)) (verdict.Bounds lower (option_map (λ (route : ProblemPath). length route.path) plan))
verdict_below p lower cert plan is between low =
    let apart = below_plan p lower plan low in
    subst (λ n. IsVerdictOf n (cap p) (option_map length (path_in plan)) (verdict.Bounds lower (option_map (λ (route : ProblemPath). length route.path) plan))) (sym between.shown)
    (apart, λ e. omega (arith, low, e, count_low p plan is between.plan_is), refl, sym (counts plan))

-- what a true answer's certificate shows says the same as the answer
verdict_on : (bay : YardBay) (p : Problem) (budget : ℕ) (found : Answer) (expanded : ℕ) → IsTrueAnswer p budget found expanded
    → IsVerdict (script_of bay p found) (verdict_said (cap p) (said_by found))
verdict_on bay p budget (answer.Optimal plan cert) expanded t = let o = t.says in (sym o.shown, ap Some (sym o.shown))
verdict_on bay p budget (answer.First plan cert) expanded t = let o = t.says in ap verdict.First (sym o.shown)
verdict_on bay p budget (answer.NoPlan cert) expanded t = let o = t.says in (λ e. cc, o.shown)
verdict_on bay p budget (answer.Between lower cert plan cause.Budget) expanded t =
    let ended = t.ended in
    let spent = ended.1 in
    let ok = t.accepted in
    verdict_below p lower cert plan ok.is_problem t.says spent.below
verdict_on bay p budget (answer.Between lower cert plan cause.Time) expanded t =
    let ended = t.ended in
    let stopped = ended.1 in
    let ok = t.accepted in
    verdict_below p lower cert plan ok.is_problem t.says stopped.below
verdict_on bay p budget (answer.Between lower cert plan cause.Memory) expanded t =
    let o = t.says in
    let upper = option_map (λ (route : ProblemPath). length route.path) plan in
    subst (λ n. IsVerdictOf n (cap p) (option_map length (path_in plan)) (shown_by lower (cap p) upper)) (sym o.shown)
    (subst (λ u. IsVerdictOf lower (cap p) u (shown_by lower (cap p) upper)) (sym (counts plan)) (shown_is lower (cap p) upper))

-- ---- the certificate

-- what the certificate of an answer claims
abbrev claim : Problem → Answer → Claimed
claim p found = claimed p (cert_of found) (path_in (plan_in found))

-- the claim of a certificate is accepted
claim_accepted : (p : Problem) (budget : ℕ) (found : Answer) (expanded : ℕ) → IsTrueAnswer p budget found expanded → IsAccepted (claim p found)
claim_accepted p budget (answer.Optimal plan cert) expanded t = t.accepted
claim_accepted p budget (answer.First plan cert) expanded t = t.accepted
claim_accepted p budget (answer.NoPlan cert) expanded t = t.accepted
claim_accepted p budget (answer.Between lower cert plan why) expanded t = t.accepted

-- and a text can state it
readable : (p : Problem) (budget : ℕ) (found : Answer) (expanded : ℕ) → IsTrueAnswer p budget found expanded → CanBeSpelled (claim p found)
readable p budget found expanded t =
    record {
      accepted = claim_accepted p budget found expanded t;
      rising = claimed_rise p (cert_of found) (path_in (plan_in found)) t.certificate;
    }

-- so the text is accepted, for its problem
text_accepted : (bay : YardBay) (p : Problem) (budget : ℕ) (found : Answer) (expanded : ℕ) → IsYardBay bay → IsTrueAnswer p budget found expanded
    → CanBeSpelled (claim p found) → IsAcceptedText (Some p) (text_of bay p found) (script_of bay p found)
text_accepted bay p budget (answer.Optimal plan cert) expanded named t can =
    record { is_text = (spelled_is_script bay (claimed p cert (Some plan.path)) named can, refl); as_wanted = refl; accepted = can.accepted }
text_accepted bay p budget (answer.First plan cert) expanded named t can =
    let o = t.says in
    record { is_text = (first_is_script bay (claimed p cert (Some plan.path)) named can, refl); as_wanted = refl; accepted = (plan.path, o.accepted) }
text_accepted bay p budget (answer.NoPlan cert) expanded named t can =
    record { is_text = (spelled_is_script bay (claimed p cert None) named can, refl); as_wanted = refl; accepted = can.accepted }
text_accepted bay p budget (answer.Between lower cert plan why) expanded named t can =
    record { is_text = (spelled_is_script bay (claimed p cert (path_in plan)) named can, refl); as_wanted = refl; accepted = can.accepted }

-- it is under the name of the bay
of_bay : (bay : YardBay) (p : Problem) (found : Answer) → (script_of bay p found).head.bay ≡ bay
of_bay bay p (answer.Optimal plan cert) = refl
of_bay bay p (answer.First plan cert) = refl
of_bay bay p (answer.NoPlan cert) = refl
of_bay bay p (answer.Between lower cert plan why) = refl

pub answer_accepted : (bay : YardBay) (p : Problem) (budget : ℕ) (found : Answer) (expanded : ℕ) → IsYardBay bay →
    IsTrueAnswer p budget found expanded → IsAcceptedAs (text_of bay p found) bay p found
answer_accepted bay p budget found expanded named t =
    (script_of bay p found, text_accepted bay p budget found expanded named t (readable p budget found expanded t), of_bay bay p found, verdict_on bay p budget found expanded t)

-- ---- files of certificates

-- the text of a certificate ends with its first line that begins with `end `
text_ended : (bay : YardBay) (p : Problem) (budget : ℕ) (found : Answer) (expanded : ℕ) → IsYardBay bay → IsTrueAnswer p budget found expanded → IsEnded (text_of bay p found)
text_ended bay p budget found expanded named t =
    let is = (text_accepted bay p budget found expanded named t (readable p budget found expanded t)).is_text in
    subst IsEnded (sym is.1) (script_ended (script_of bay p found) is.0)

-- so the certificates are the texts of the file
cut : (chosen : Chosen) (answered : List Answered) → AllByRecursion CanBeWritten (map (λ bay. bay.stated) answered) → AllByRecursion (λ bay. IsSolved bay.stated.problem chosen bay.solved) answered →
    BeginsWithTexts (certificates_text answered) (map certificate_of answered) []
cut chosen [] can each = refl
cut chosen (bay ∷ answered) can each = (
  certificates_text answered,
  refl,
  inl (text_ended bay.stated.bay bay.stated.problem chosen.budget bay.solved.answer bay.solved.expanded can.0 each.0.answer),
  cut chosen answered can.1 each.1,
)

pub run_cut : (chosen : RunChosen) (seen : RunSeen) (made : Made) → IsMade chosen seen made → BeginsWithTexts made.certificates (map certificate_of made.answered) []
run_cut chosen seen made is =
    let t = is.true_answers in
    let can = recursion_from_All CanBeWritten (problems_of made.yard made.sequence) (can_be_written chosen.input.sizes made.list made.yard made.sequence is.listed) in
    let each = recursion_from_All (λ (bay : Answered). IsSolved bay.stated.problem chosen.search bay.solved) made.answered t.each_true in
    subst (λ file. BeginsWithTexts file (map certificate_of made.answered) []) (sym is.certificates)
    (cut chosen.search made.answered (subst (AllByRecursion CanBeWritten) (sym t.one_for_each) can) each)
